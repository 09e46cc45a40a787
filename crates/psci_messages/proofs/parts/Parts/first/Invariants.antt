-- Those that the loop went over are there, in their order.
use Rattle.std.proofs.Common.{◌≡◌, take}
use Rattle.psci_messages.proofs.parts.Parts.first.Given as goal

abbrev pub invariant-loop-place : goal.invariant-loop-place
invariant-loop-place l = l.first ≡ take l.place l.parts
