-- The parts so far are the given ones.
use Rattle.std.proofs.Common.{◌≡◌, map, take}
use Rattle.psci_ffi.specs.Frames.{part_given}
use Rattle.psci_ffi.proofs.fields.parts_given.Given as goal

abbrev pub invariant-loop-part : goal.invariant-loop-part
invariant-loop-part l = l.parts ≡ map part_given (take l.part-index l.given)
