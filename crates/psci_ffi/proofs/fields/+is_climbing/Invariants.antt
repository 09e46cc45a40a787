-- Each call looks at fewer parts.
use Rattle.std.proofs.Common.{length}
use Rattle.psci_ffi.proofs.fields.+is_climbing.Given as goal

abbrev pub decreases-is_climbing : goal.decreases-is_climbing
decreases-is_climbing l = length l.parts.now
