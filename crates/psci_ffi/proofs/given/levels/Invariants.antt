-- The levels so far are the given ones.
use Rattle.std.proofs.Common.{◌≡◌, map, take}
use Rattle.psci_ffi.specs.Given.{level_given}
use Rattle.psci_ffi.proofs.given.levels.Given as goal

abbrev pub invariant-loop-level : goal.invariant-loop-level
invariant-loop-level l = l.made.items ≡ map level_given (take l.level-index l.levels)
