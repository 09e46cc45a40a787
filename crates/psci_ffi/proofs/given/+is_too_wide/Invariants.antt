-- Each call looks at fewer levels.
use Rattle.std.proofs.Common.{length}
use Rattle.psci_ffi.proofs.given.+is_too_wide.Given as goal

abbrev pub decreases-is_too_wide : goal.decreases-is_too_wide
decreases-is_too_wide l = length l.levels.now
