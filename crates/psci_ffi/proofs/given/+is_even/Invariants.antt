-- Each call looks at fewer levels.
use Rattle.std.proofs.Common.{length}
use Rattle.psci_ffi.proofs.given.+is_even.Given as goal

abbrev pub decreases-is_even : goal.decreases-is_even
decreases-is_even l = length l.levels.now
