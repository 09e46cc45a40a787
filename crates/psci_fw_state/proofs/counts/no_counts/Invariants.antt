-- The levels so far have no count.
use Rattle.psci_fw_state.proofs.Words.{◌+◌, ◌<◌, ◌≡◌, drop, length, level_counts, map, no_cores}
use Rattle.psci_fw_state.proofs.Words.{replicate, size_below, ℕ}
use Rattle.psci_fw_state.proofs.counts.no_counts.Given as goal

abbrev pub invariant-loop-level : goal.invariant-loop-level
invariant-loop-level l = record {
  count : length l.counts.items + 1 ≡ l.level;
  rows : (k : ℕ) → 0 < k → k < l.level → level_counts (map (λ v. v.items) l.counts.items) k
      ≡ replicate (size_below (drop k l.board.levels)) no_cores;
}
