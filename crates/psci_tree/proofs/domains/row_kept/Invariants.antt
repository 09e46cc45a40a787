-- The domains so far keep that all below them are off.
use Rattle.psci_tree.proofs.Words.{◌<◌, ◌≡◌, [], get_or, Keeps, length, never_started, recount}
use Rattle.psci_tree.proofs.Words.{replicate, span, ℕ}
use Rattle.psci_tree.proofs.domains.row_kept.Given as goal

abbrev pub invariant-loop-place : goal.invariant-loop-place
invariant-loop-place l = record {
  count : length l.row.items ≡ l.place;
  each : (p : ℕ) → p < l.place → Keeps l.fn.level (get_or l.row.items p (recount 0 []))
      (replicate (span l.board.levels (record { level = l.fn.level; place = p })).count
      never_started);
}
