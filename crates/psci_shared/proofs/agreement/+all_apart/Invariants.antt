-- Each call looks at fewer passes.
use Rattle.std.proofs.Common.{length}
use Rattle.psci_shared.proofs.agreement.+all_apart.Given as goal

abbrev pub decreases-all_apart : goal.decreases-all_apart
decreases-all_apart g l = length l.passes.now
