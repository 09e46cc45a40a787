-- Each call looks at fewer ranges.
use Rattle.std.proofs.Common.{length}
use Rattle.psci_ffi.proofs.given.+is_in_some.Given as goal

abbrev pub decreases-is_in_some : goal.decreases-is_in_some
decreases-is_in_some l = length l.ranges.now
