-- The rows so far are those of the start of a life.
use Rattle.psci_fw_state.proofs.Words.{◌<◌, ◌≡◌, first_row, length, row_at, ℕ}
use Rattle.psci_fw_state.proofs.row.first_rows.Given as goal

abbrev pub invariant-loop-core : goal.invariant-loop-core
invariant-loop-core l = record {
  count : length l.rows.items ≡ l.core;
  each : (k : ℕ) → k < l.core → row_at l.rows.items k ≡ first_row l.board k;
}
