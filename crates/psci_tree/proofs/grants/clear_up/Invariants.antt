-- With what is left to clear from this level up, all is as cleared at once.
use Rattle.psci_tree.proofs.Words.{map}
use Rattle.psci_tree.proofs.Gone.{IsClearedTo}
use Rattle.psci_tree.proofs.grants.clear_up.Given as goal

abbrev pub invariant-loop-level : goal.invariant-loop-level
invariant-loop-level l =
    IsClearedTo l.board.levels l.fn.core.number (map (λ v. v.items) l.initial.rows)
    (map (λ v. v.items) l.rows) l.level
