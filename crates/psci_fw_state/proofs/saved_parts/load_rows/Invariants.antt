-- The rows so far have their words, and the rest of the words is that of the others.
use Rattle.std.proofs.Common.{◌≡◌, ◌+◌, ◌*◌, ◌++◌, flat_map, length, map, take, true}
use Rattle.psci_board.specs.Board.{cores}
use Rattle.psci_fw_state.specs.Counts.{AreCounted}
use Rattle.psci_fw_state.specs.Rows.{status_at}
use Rattle.psci_fw_state.specs.Saved.{are_rows, row_words}
use Rattle.psci_fw_state.proofs.saved_parts.load_rows.Given as goal

abbrev pub invariant-loop-number : goal.invariant-loop-number
invariant-loop-number l = record {
  done : flat_map row_words (take l.number l.rows) ++ l.rest ≡ l.words;
  left : length l.rest + 4 * l.number ≡ 4 * cores l.board;
  good : are_rows l.rest ≡ true;
  counted : AreCounted l.board (status_at l.rows) l.rows (map (λ v. v.items) l.counts);
}
