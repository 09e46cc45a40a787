-- The parents so far are the groups that their places are in.
use Rattle.psci_board.proofs.Terms.{◌+◌, ◌<◌, ◌≡◌, get_or, group_of, length, sum, take, ℕ}
use Rattle.psci_board.proofs.level.parents_of.Given as goal

abbrev pub invariant-loop-place : goal.invariant-loop-place
invariant-loop-place l = record {
  len : length l.parents.items ≡ sum (take l.place l.counts);
  each : (i : ℕ) → i < length l.parents.items → get_or l.parents.items i 0 ≡ group_of l.counts i;
}

abbrev pub invariant-loop-child : goal.invariant-loop-child
invariant-loop-child l = record {
  len : length l.parents.items ≡ sum (take l.place l.counts) + l._child;
  each : (i : ℕ) → i < length l.parents.items → get_or l.parents.items i 0 ≡ group_of l.counts i;
}
