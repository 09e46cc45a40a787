-- The ways so far lead to their cores.
use Rattle.psci_tree.proofs.Words.{◌<◌, ◌≡◌, get_or, IsWayOf, length, Way, ℕ}
use Rattle.psci_tree.proofs.way.ways_of.Given as goal

abbrev pub invariant-loop-number : goal.invariant-loop-number
invariant-loop-number l = record {
  count : length l.ways.items ≡ l.number;
  each : (core : ℕ) (w : Way) → core < l.number
      → IsWayOf l.board.levels core (get_or l.ways.items core w);
}
