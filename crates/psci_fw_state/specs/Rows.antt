-- What the firmware keeps of each core beside the tree of power domains.
use Rattle.std.specs.Prelude.{◌≡◌, ℕ, ◌<◌, List, length, slice_index_or, None}
use Rattle.psci_board.specs.Board.{BoardValue, cores}
use Rattle.psci_fw_spec.specs.declared.status.Status.{Status}
use Rattle.psci_fw_spec.specs.declared.status.Status.TheVariants.{Off}
use Rattle.psci_fw_spec.specs.Changes.{first_status, first_opening}
use Rattle.psci_fw_state.specs.declared.row.CoreRow.{CoreRow}

-- a core that is off and goes on nowhere
abbrev pub off_row : CoreRow
off_row = record { status = Off; opening = None }

-- a core at the start of a life
abbrev pub first_row : BoardValue → ℕ → CoreRow
first_row b c = record { status = first_status c; opening = first_opening b c }

-- what is kept of the core of this number; of one that is not there, that it is off
abbrev pub row_at : List CoreRow → ℕ → CoreRow
row_at rows c = slice_index_or rows c off_row

-- the status of the core of this number
abbrev pub status_at : List CoreRow → ℕ → Status
status_at rows c = (row_at rows c).status

-- a row for each core of the board, each as at the start of a life
pub record AreFirst (b : BoardValue) (rows : List CoreRow) : Type 0 where
  pub count : length rows ≡ cores b
  pub each : (k : ℕ) → k < cores b → row_at rows k ≡ first_row b k
