-- Worked examples: who may write and read a table of status words, what a meeting leaves. Words,
-- writers and readers are made while a program runs: here they are any, of which some is known.
use Rattle.std.proofs.Common.{◌∷◌, ◌≡◌, [], arith, List}
use Rattle.psci_fw_spec.specs.declared.status.Status.{Status}
use Rattle.psci_fw_spec.specs.declared.status.Status.TheVariants.{Off, On}
use Rattle.psci_status.specs.declared.seats.Reader.{Reader}
use Rattle.psci_status.specs.declared.seats.StatusWords.{StatusWords}
use Rattle.psci_status.specs.declared.seats.Writer.{Writer}
use Rattle.psci_status.specs.Lists.{HasMet, Item}
use Rattle.psci_status.specs.Seats.{AreOf, MayRead, MayWrite, table, table_of_reader}
use Rattle.psci_status.specs.Seats.{table_of_writer, WritesBoard}
use Rattle.psci_status.proofs.CallSteps.{board, computing}

-- Writing ----------------------------------------------------------------------------------------

-- there is no such word; the writer is of another table
no_word_of_it : (words : StatusWords) (w : Writer) → (table words).words ≡ 4 → MayWrite words w 4
    → ⊥
no_word_of_it = search arith

another_table : (words : StatusWords) (w : Writer) → (table words).words ≡ 4
    → (table_of_writer w).words ≡ 5 → MayWrite words w 3 → ⊥
another_table = search arith

-- of the board with four cores
whole_board : (words : StatusWords) (w : Writer) → (table words).words ≡ 4
    → table_of_writer w ≡ table words → WritesBoard words w board 4
unfolding computing
whole_board = search arith

five_cores : (words : StatusWords) (w : Writer) → WritesBoard words w board 5 → ⊥
unfolding computing
five_cores = search arith

word_is_missing : (words : StatusWords) (w : Writer) → (table words).words ≡ 3
    → WritesBoard words w board 4 → ⊥
word_is_missing = search arith

board_of_another_table : (words : StatusWords) (w : Writer) → (table words).words ≡ 4
    → (table_of_writer w).words ≡ 5 → WritesBoard words w board 4 → ⊥
board_of_another_table = search arith

-- Reading ----------------------------------------------------------------------------------------

read_no_word : (words : StatusWords) (r : Reader) → (table words).words ≡ 4 → MayRead words r 4 → ⊥
read_no_word = search arith

read_another_table : (words : StatusWords) (r : Reader) → (table words).words ≡ 4
    → (table_of_reader r).words ≡ 5 → MayRead words r 3 → ⊥
read_another_table = search arith

-- Meeting ----------------------------------------------------------------------------------------

writer_of_another : (words : StatusWords) (w : Writer) (r : Reader) → (table words).words ≡ 4
    → (table_of_writer w).words ≡ 5 → AreOf words w r → ⊥
writer_of_another = search arith

reader_of_another : (words : StatusWords) (w : Writer) (r : Reader) → (table words).words ≡ 4
    → (table_of_reader r).words ≡ 5 → AreOf words w r → ⊥
reader_of_another = search arith

-- of one core OFF was written, and then ON
abbrev wrote : List (List Status)
wrote = (On ∷ Off ∷ []) ∷ []

abbrev off : Item
off = (0, Off)

abbrev on : Item
on = (1, On)

abbrev unwritten : Item
unwritten = (2, Off)

-- what a reader has seen that saw it OFF, and sees it ON when it comes
abbrev saw : List (List Item)
saw = (off ∷ []) ∷ []

abbrev now : List (List Item)
now = (on ∷ off ∷ []) ∷ []

met_or_not :
    HasMet wrote 1 saw now
    -- it had seen what was not written, or has; it has forgotten OFF; it has learned nothing
    × ¬ (HasMet wrote 1 ((unwritten ∷ []) ∷ []) now)
    × ¬ (HasMet wrote 1 saw ((unwritten ∷ []) ∷ []))
    × ¬ (HasMet wrote 1 saw ((on ∷ []) ∷ []))
    × ¬ (HasMet wrote 1 saw saw)
unfolding computing
met_or_not = search arith
