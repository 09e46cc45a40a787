-- Each call looks at fewer parts.
use Rattle.std.proofs.Common.{length}
use Rattle.psci_ffi.proofs.fields.+is_falling.Given as goal

abbrev pub decreases-is_falling : goal.decreases-is_falling
decreases-is_falling l = length l.parts.now
