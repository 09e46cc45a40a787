-- The rows so far stand from the start on.
use Rattle.std.proofs.Common.{◌≡◌, ◌+◌, ◌*◌, ◌≤◌, ◌++◌, flat_map, length, take}
use Rattle.psci_fw_state.specs.Saved.{row_words}
use Rattle.psci_fw_state.proofs.saved_parts.save_rows.Given as goal

abbrev pub invariant-loop-core : goal.invariant-loop-core
invariant-loop-core l = record {
  done : take (l.start + 4 * l.core) l.words
      ≡ take l.start l.fn.words ++ flat_map row_words (take l.core l.rows);
  room : l.start + 4 * length l.rows ≤ length l.words;
}
