-- What is done so far, and how much is left.
use Rattle.std.proofs.Common.{◌≡◌, ◌+◌, length}
use Rattle.psci_audit.specs.Merged.{merged}
use Rattle.psci_audit.proofs.SoFar.{IsBetween}
use Rattle.psci_audit.proofs.merging.follow_all.Given as goal

abbrev pub invariant-loop-place : goal.invariant-loop-place
invariant-loop-place l = record {
  between : IsBetween l.fn.world.board (merged l.firmware l.controller) l.world l.asked
      l.controlled l.place;
  left : length l.asked + length l.controlled + l.place ≡ length l.firmware + length l.controller;
}
