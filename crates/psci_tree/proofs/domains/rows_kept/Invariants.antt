-- The levels so far keep that all below them are off.
use Rattle.psci_tree.proofs.Words.{◌+◌, ◌<◌, ◌≡◌, length, level_kept, map, ℕ}
use Rattle.psci_tree.specs.Kept.{IsOffRow}
use Rattle.psci_tree.proofs.domains.rows_kept.Given as goal

abbrev pub invariant-loop-level : goal.invariant-loop-level
invariant-loop-level l = record {
  count : length l.rows.items + 1 ≡ l.level;
  rows : (k : ℕ) → 0 < k → k < l.level → IsOffRow l.board.levels k
      (level_kept (map (λ v. v.items) l.rows.items) k);
}
