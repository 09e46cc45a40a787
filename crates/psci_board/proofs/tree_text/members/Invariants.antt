-- The members so far and those that are left give what is read of the list.
use Rattle.psci_board.proofs.Terms.{◌≡◌, length, member_at, more_at}
use Rattle.psci_board.specs.Summary.{with_members}
use Rattle.psci_board.proofs.tree_text.members.Given as goal

abbrev pub invariant-loop-after : goal.invariant-loop-after
invariant-loop-after l = record {
  summary : with_members l.summary (more_at member_at l.rest).0
      ≡ with_members l.initial.summary (more_at member_at l.initial.rest).0;
  rest : (more_at member_at l.rest).1 ≡ (more_at member_at l.initial.rest).1;
}

abbrev pub decreases-loop-after : goal.decreases-loop-after
decreases-loop-after l = length l.rest
