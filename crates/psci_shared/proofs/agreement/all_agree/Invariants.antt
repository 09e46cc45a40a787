-- The passes that are left agree exactly where all do.
use Rattle.std.proofs.Common.{drop}
use Rattle.std.specs.Prelude.{◌↔◌}
use Rattle.psci_shared.specs.Places.{AllAgree}
use Rattle.psci_shared.proofs.agreement.all_agree.Given as goal

abbrev pub invariant-loop-pass : goal.invariant-loop-pass
invariant-loop-pass g l =
    AllAgree l.book (drop l.pass-index l.passes)
    ↔ AllAgree l.book l.passes
