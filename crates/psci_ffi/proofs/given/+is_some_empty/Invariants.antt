-- Each call looks at fewer ranges.
use Rattle.std.proofs.Common.{length}
use Rattle.psci_ffi.proofs.given.+is_some_empty.Given as goal

abbrev pub decreases-is_some_empty : goal.decreases-is_some_empty
decreases-is_some_empty l = length l.ranges.now
