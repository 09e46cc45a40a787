-- The items that are left stand exactly where all do.
use Rattle.std.proofs.Common.{drop}
use Rattle.std.specs.Prelude.{◌↔◌}
use Rattle.psci_shared.specs.Places.{AllStandFrom}
use Rattle.psci_shared.proofs.agreement.all_stand.Given as goal

abbrev pub invariant-loop-item : goal.invariant-loop-item
invariant-loop-item g l =
    AllStandFrom l.entries l.core l.from (drop l.item-index l.items)
    ↔ AllStandFrom l.entries l.core 0 l.items
