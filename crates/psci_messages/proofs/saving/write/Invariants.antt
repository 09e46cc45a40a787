-- The words so far stand from the start on.
use Rattle.std.proofs.Common.{◌≡◌, ◌+◌, ◌≤◌, ◌++◌, length, take}
use Rattle.psci_messages.proofs.saving.write.Given as goal

abbrev pub invariant-loop-place : goal.invariant-loop-place
invariant-loop-place l = record {
  done : take (l.start + l.place) l.words ≡ take l.start l.fn.words ++ take l.place l.own;
  room : l.start + length l.own ≤ length l.words;
}
