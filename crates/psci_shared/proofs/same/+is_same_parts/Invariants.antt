-- Each call looks at fewer parts.
use Rattle.std.proofs.Common.{length}
use Rattle.psci_shared.proofs.same.+is_same_parts.Given as goal

abbrev pub decreases-is_same_parts : goal.decreases-is_same_parts
decreases-is_same_parts l = length l.one.now
