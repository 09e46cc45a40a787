-- The numbers so far and those that are left give what is read of the group.
use Rattle.psci_board.proofs.Terms.{◌+◌, ◌≡◌, ◌≤◌, length, more_at, number_at}
use Rattle.psci_board.specs.Summary.{with_numbers}
use Rattle.psci_board.proofs.tree_text.group.Given as goal

abbrev pub invariant-loop-number : goal.invariant-loop-number
invariant-loop-number l = record {
  summary : with_numbers l.summary (more_at number_at l.rest).0
      ≡ with_numbers l.initial.summary (more_at number_at l.initial.rest).0;
  rest : (more_at number_at l.rest).1 ≡ (more_at number_at l.initial.rest).1;
  count : l.count + length (more_at number_at l.rest).0
      ≡ 1 + length (more_at number_at l.initial.rest).0;
  bound : l.count + length l.rest ≤ 1 + length l.initial.rest;
  inside : length l.initial.rest ≤ length l.text;
}

abbrev pub decreases-loop-number : goal.decreases-loop-number
decreases-loop-number l = length l.rest
