-- The words are those of rows where the rest of them is.
use Rattle.std.proofs.Common.{◌≡◌, ◌+◌, ◌≤◌, length}
use Rattle.psci_fw_state.specs.Saved.{are_rows}
use Rattle.psci_fw_state.proofs.saved_parts.are_rows.Given as goal

abbrev pub invariant-loop : goal.invariant-loop
invariant-loop l = record {
  same : are_rows l.rest ≡ are_rows l.words;
  left : length l.rest + l.counter ≤ length l.words;
}
