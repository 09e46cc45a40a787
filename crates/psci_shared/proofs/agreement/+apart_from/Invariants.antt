-- Each call looks at fewer passes.
use Rattle.std.proofs.Common.{length}
use Rattle.psci_shared.proofs.agreement.+apart_from.Given as goal

abbrev pub decreases-apart_from : goal.decreases-apart_from
decreases-apart_from g l = length l.others.now
