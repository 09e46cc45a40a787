-- Those that the loop went over are there, in their order.
use Rattle.std.proofs.Common.{◌≡◌, take}
use Rattle.psci_messages.proofs.parts.ArrayVecPartMOST_PARTSFromParts.from.Given as goal

abbrev pub invariant-loop-part : goal.invariant-loop-part
invariant-loop-part l = l.items.items ≡ take l.part-index l.part-items
