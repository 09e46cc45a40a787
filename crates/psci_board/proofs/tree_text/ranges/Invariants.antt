-- The summary so far and the ranges that are left give that of all, and fewer bytes are left.
use Rattle.psci_board.proofs.Terms.{◌≡◌, length, more_at, range_at, with_ranges}
use Rattle.psci_board.proofs.tree_text.ranges.Given as goal

abbrev pub invariant-loop-range : goal.invariant-loop-range
invariant-loop-range l = record {
  summary : with_ranges l.summary (more_at range_at l.rest).0
      ≡ with_ranges l.initial.summary (more_at range_at l.initial.rest).0;
  rest : (more_at range_at l.rest).1 ≡ (more_at range_at l.initial.rest).1;
}

abbrev pub decreases-loop-range : goal.decreases-loop-range
decreases-loop-range l = length l.rest
