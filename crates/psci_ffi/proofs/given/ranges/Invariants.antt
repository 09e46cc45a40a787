-- The ranges so far are the given ones.
use Rattle.std.proofs.Common.{◌≡◌, map, take}
use Rattle.psci_ffi.specs.Given.{range_given}
use Rattle.psci_ffi.proofs.given.ranges.Given as goal

abbrev pub invariant-loop-range : goal.invariant-loop-range
invariant-loop-range l = l.made.items ≡ map range_given (take l.range-index l.ranges)
