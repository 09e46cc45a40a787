-- The rows so far have power-down throughout, which is confirmed.
use Rattle.psci_tree.proofs.Words.{◌≡◌, filled, level_sizes, map, take}
use Rattle.psci_tree.proofs.grants.deepest_rows.Given as goal

abbrev pub invariant-loop-level : goal.invariant-loop-level
invariant-loop-level l = map (λ v. v.items) l.rows.items
    ≡ filled (take l.level (level_sizes l.board.levels)) (record { granted = 3; confirmed = 3 })
