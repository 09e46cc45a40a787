-- The state of the firmware as words of 64 bits, and the first fault of words that are none.
use Rattle.std.specs.Prelude.{◌&&◌, ◌*◌, ◌++◌, ◌+◌, ◌==◌, ◌||◌, ◌∷◌, ◌≡◌, [], Bool, drop, false}
use Rattle.std.specs.Prelude.{flat_map, if◌then◌else◌, length, List, nat_le, nat_lt, None, not}
use Rattle.std.specs.Prelude.{Option, Some, take, true, ℕ}
use Rattle.psci_board.specs.Board.{BoardValue, cores}
use Rattle.psci_messages.specs.Saved.{AreKept, are_slots, slots_words}
use Rattle.psci_messages.specs.Sum.{sum_from}
use Rattle.psci_tree.specs.Saved.{are_cores, are_depths, AreCounted, core_words, depth_words}
use Rattle.psci_tree.specs.Saved.{domain_count}
use Rattle.psci_fw_spec.specs.declared.mode.SuspendMode.{SuspendMode}
use Rattle.psci_fw_spec.specs.declared.mode.SuspendMode.TheVariants.{Platform, OsInitiated}
use Rattle.psci_fw_spec.specs.declared.opening.Opening.{Opening}
use Rattle.psci_fw_spec.specs.declared.status.Status.{Status}
use Rattle.psci_fw_spec.specs.declared.status.Status.TheVariants.{On, Off, Pending}
use Rattle.psci_fw_spec.specs.PowerCalls.{status_code}
use Rattle.psci_fw_state.specs.declared.fault.SavedFault.{SavedFault}
use Rattle.psci_fw_state.specs.declared.fault.SavedFault.TheVariants as faults
use Rattle.psci_fw_state.specs.declared.row.CoreRow.{CoreRow}
use Rattle.psci_fw_state.specs.declared.saved_parts.TheConstants.{FORMAT}
use Rattle.psci_fw_state.specs.Seen.{StateValue}

-- Words ------------------------------------------------------------------------------------------

-- 1 where something is so, and 0 where it is not
abbrev pub flag : Bool → ℕ
flag true = 1
flag false = 0

-- who coordinates, as a number
abbrev pub mode_number : SuspendMode → ℕ
mode_number Platform = 0
mode_number OsInitiated = 1

-- 1 and where a core goes on, and 0 throughout where it goes on nowhere
abbrev pub opening_words : Option Opening → List ℕ
opening_words None = 0 ∷ 0 ∷ 0 ∷ []
opening_words (Some o) = 1 ∷ o.address ∷ o.context ∷ []

-- what AFFINITY_INFO answers of a core, and where it goes on
abbrev pub row_words : CoreRow → List ℕ
row_words row = status_code row.status ∷ opening_words row.opening

-- the life, whether it is halting, and the mode
abbrev pub life_words : StateValue → List ℕ
life_words s = s.life ∷ flag s.halting ∷ mode_number s.mode ∷ []

-- the cores and domains of the tree, the rows of the cores, and the slots
abbrev pub part_words : StateValue → List ℕ
part_words s = flat_map core_words s.tree.cores
    ++ (depth_words s.tree ++ (flat_map row_words s.rows ++ slots_words s.slots))

-- the words that a state is saved as: the format, the sum of what follows, and all that is kept
unfoldable pub saved : StateValue → List ℕ
saved s = let words = life_words s ++ part_words s in FORMAT ∷ sum_from 0 words ∷ words

-- how many words the parts of a board's state have
abbrev pub part_count : BoardValue → ℕ
part_count b = 2 * cores b + (2 * domain_count b.levels + (4 * cores b + 12 * (cores b + 1)))

-- Faults -----------------------------------------------------------------------------------------

-- the words of one core's row: a status, and an opening or none
abbrev pub is_row : ℕ → ℕ → ℕ → ℕ → Bool
is_row status some address context =
    nat_le status 2 && (some == 1 || (some == 0 && (address == 0 && context == 0)))

-- those of some cores' rows
abbrev pub are_rows : List ℕ → Bool
are_rows [] = true
are_rows (s ∷ []) = false
are_rows (s ∷ o ∷ []) = false
are_rows (s ∷ o ∷ a ∷ []) = false
are_rows (s ∷ o ∷ a ∷ c ∷ ws) = is_row s o a c && are_rows ws

-- the words of each part: the cores, the domains, the rows, the slots
abbrev pub core_part : BoardValue → List ℕ → List ℕ
core_part b ws = take (2 * cores b) ws

abbrev pub depth_part : BoardValue → List ℕ → List ℕ
depth_part b ws = take (2 * domain_count b.levels) (drop (2 * cores b) ws)

abbrev pub row_part : BoardValue → List ℕ → List ℕ
row_part b ws = take (4 * cores b) (drop (2 * domain_count b.levels) (drop (2 * cores b) ws))

abbrev pub slot_part : BoardValue → List ℕ → List ℕ
slot_part b ws = drop (4 * cores b) (drop (2 * domain_count b.levels) (drop (2 * cores b) ws))

-- the first fault of the parts
abbrev pub part_fault : BoardValue → List ℕ → Option SavedFault
part_fault b ws =
    if not (are_cores (core_part b ws)) then Some faults.Core
    else (if not (are_depths b.levels (depth_part b ws)) then Some faults.Depth
    else (if not (are_rows (row_part b ws)) then Some faults.Row
    else (if not (are_slots (cores b + 1) (slot_part b ws)) then Some faults.Message
    else None)))

-- the first fault of words as a saved state of this board's firmware
unfoldable pub saved_fault : BoardValue → List ℕ → Option SavedFault
saved_fault b [] = Some faults.Length
saved_fault b (f ∷ []) = Some faults.Length
saved_fault b (f ∷ s ∷ []) = Some faults.Length
saved_fault b (f ∷ s ∷ l ∷ []) = Some faults.Length
saved_fault b (f ∷ s ∷ l ∷ h ∷ []) = Some faults.Length
saved_fault b (f ∷ s ∷ l ∷ h ∷ m ∷ ws) =
    if not (length ws == part_count b) then Some faults.Length
    else (if not (f == FORMAT) then Some faults.Format
    else (if not (s == sum_from 0 (l ∷ h ∷ m ∷ ws)) then Some faults.Sum
    else (if nat_lt b.lives l then Some faults.Life
    else (if not (nat_le h 1 && nat_le m 1) then Some faults.Mode
    else part_fault b ws))))

-- What such words say ----------------------------------------------------------------------------

-- the status of this number
abbrev pub status_of : ℕ → Status
status_of number = if number == 0 then On else (if number == 1 then Off else Pending)

-- the opening of these words
abbrev pub opening_of : ℕ → ℕ → ℕ → Option Opening
opening_of some address context =
    if some == 0 then None else Some (record { address = address; context = context })

-- the mode of this number
abbrev pub mode_of : ℕ → SuspendMode
mode_of number = if number == 0 then Platform else OsInitiated

-- what is saved of every state: known starts of 32 bits, and messages of such lives and numbers
pub record IsSavable (s : StateValue) : Type 0 where
  pub counted : AreCounted s.tree.cores
  pub slots : AreKept s.slots

-- the life, whether it is halting, and the mode are those of before, on the same board
pub record KeepsHeading (old new : StateValue) : Type 0 where
  pub board : new.board ≡ old.board
  pub life : new.life ≡ old.life
  pub halting : new.halting ≡ old.halting
  pub mode : new.mode ≡ old.mode
