-- The domains of the levels so far keep what is so of the new states.
use Rattle.psci_tree.proofs.Words.{map, set}
use Rattle.psci_tree.proofs.Levels.{IsChanged}
use Rattle.psci_tree.proofs.core_change.change_core.Given as goal

abbrev pub invariant-loop-level : goal.invariant-loop-level
invariant-loop-level l =
    IsChanged l.board.levels l.fn.cores (set l.fn.cores l.fn.core.number l.fn.state)
    (map (λ v. v.items) l.rows) l.level
