-- What contracts see of the words, of their writer and of a reader.
use Rattle.std.specs.Prelude.{◌≡◌, ◌<◌, ℕ, List}
use Rattle.atomic_table.specs.Seated.{TableId}
use Rattle.psci_board.specs.Board.{BoardValue, cores}
use Rattle.psci_fw_spec.specs.declared.status.Status.{Status}
use Rattle.psci_status.specs.declared.seats.Reader.{Reader}
use Rattle.psci_status.specs.declared.seats.Writer.{Writer}
use Rattle.psci_status.specs.declared.seats.StatusWords.{StatusWords}
use Rattle.psci_status.specs.Lists.{Item}

-- the table of words, by its name
abbrev pub table : StatusWords → TableId
table words = words.table.shared.table_id

-- the table that a writer writes, by its name
abbrev pub table_of_writer : Writer → TableId
table_of_writer writer = writer.seat.table_id

-- the table that a reader reads, by its name
abbrev pub table_of_reader : Reader → TableId
table_of_reader reader = reader.seat.table_id

-- what was written of each core
abbrev pub written : Writer → List (List Status)
written writer = writer.seat.me.0.log

-- what a reader has seen of each core
abbrev pub seen : Reader → List (List Item)
seen reader = reader.seat.me.0.seen

-- the writer writes this table, which has a word for the core
pub record MayWrite (words : StatusWords) (writer : Writer) (number : ℕ) : Type 0 where
  pub core : number < (table words).words
  pub table : table_of_writer writer ≡ table words

-- the writer writes this table, which has a word for each of so many cores: those of a board
pub record WritesBoard (words : StatusWords) (writer : Writer) (b : BoardValue) (count : ℕ)
    : Type 0 where
  pub cores : count ≡ cores b
  pub each : (table words).words ≡ count
  pub table : table_of_writer writer ≡ table words

-- the reader reads this table, which has a word for the core
pub record MayRead (words : StatusWords) (reader : Reader) (number : ℕ) : Type 0 where
  pub core : number < (table words).words
  pub table : table_of_reader reader ≡ table words

-- the writer and the reader are of this table
pub record AreOf (words : StatusWords) (one : Writer) (other : Reader) : Type 0 where
  pub writer : table_of_writer one ≡ table words
  pub reader : table_of_reader other ≡ table words
