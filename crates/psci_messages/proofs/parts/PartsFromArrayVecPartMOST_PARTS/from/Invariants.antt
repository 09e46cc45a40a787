-- Those that the loop went over are there, in their order.
use Rattle.std.proofs.Common.{◌≡◌, take}
use Rattle.psci_messages.proofs.parts.PartsFromArrayVecPartMOST_PARTS.from.Given as goal

abbrev pub invariant-loop-part : goal.invariant-loop-part
invariant-loop-part l = l.own ≡ take l.part-index l.part-items
