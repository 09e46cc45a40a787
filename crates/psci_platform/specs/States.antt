-- Power state words of a platform, and what they ask of each level.
use Rattle.std.specs.Prelude.{◌&&◌, ◌-◌, ◌==◌, ◌∷◌, [], Bool, find, if◌then◌else◌, List, map}
use Rattle.std.specs.Prelude.{nat_lt, None, not, Option, slice_index, slice_index_or, Some, true}
use Rattle.std.specs.Prelude.{ℕ}
use Rattle.std.specs.Int.Bits.{bit_and}
use Rattle.std.specs.List.{list_any}
use Rattle.psci_abi.specs.declared.registers.Format.{Format}
use Rattle.psci_fw_spec.specs.declared.mode.SuspendMode.{SuspendMode}
use Rattle.psci_fw_spec.specs.declared.mode.SuspendMode.TheVariants.{Platform, OsInitiated}
use Rattle.psci_state.specs.PowerState.{is_ask, power_down, retention, running, standby, word_of}
use Rattle.psci_platform.specs.declared.class.Class.{Class}
use Rattle.psci_platform.specs.declared.class.Class.TheVariants.{PowerDown, Retention, Running}
use Rattle.psci_platform.specs.declared.class.Class.TheVariants.{Standby}
use Rattle.psci_platform.specs.Described.{DescriptionValue}
use Rattle.psci_platform.specs.declared.readings.Reading.{Reading}
use Rattle.psci_platform.specs.declared.row.Row.{Row}

-- the depth that stands for a class in an ask
abbrev pub depth_of : Class → ℕ
depth_of Running = running
depth_of Standby = standby
depth_of Retention = retention
depth_of PowerDown = power_down

-- the depth of the state of this level and number; a number that no state has is as power-down
abbrev pub depth_at : DescriptionValue → ℕ → ℕ → ℕ
depth_at d level number =
    depth_of (slice_index_or (slice_index_or d.classes level []) number PowerDown)

-- the depths of the states of all levels
abbrev pub depths_of : DescriptionValue → List ℕ → List ℕ
depths_of d states = map (λ level. depth_at d level (slice_index states level)) (0 ∷ 1 ∷ 2 ∷ 3 ∷ [])

-- a row reads a word: they have the same bits, as far as they count
abbrev pub reads : ℕ → Row → Bool
reads word row = bit_and word row.mask == row.word

-- the row of a word
abbrev pub row_of : DescriptionValue → ℕ → Option Row
row_of d word = find (reads word) d.rows

-- a state of this level and number is not the first one of its class
abbrev pub is_deeper : DescriptionValue → ℕ → ℕ → Bool
is_deeper d level number =
    nat_lt 0 number && depth_at d level number == depth_at d level (number - 1)

-- Whether states can be asked for in this mode. Platform-coordinated, the firmware finds the
-- deepest class that all cores below a domain allow, and does not know which state of the class
-- each of them asked for. So from level 1 up only the first state of a class is asked for there.
abbrev pub can_ask : DescriptionValue → SuspendMode → List ℕ → Bool
can_ask d OsInitiated states = true
can_ask d Platform states =
    not (list_any (λ level. is_deeper d level (slice_index states level)) (1 ∷ 2 ∷ 3 ∷ []))

-- what a word asks for in this mode: the states of its row
abbrev pub states_if : DescriptionValue → SuspendMode → Option Row → Option (List ℕ)
states_if d mode None = None
states_if d mode (Some row) = if can_ask d mode row.states then Some row.states else None

-- what a word asks for in this mode: the states of its row
abbrev pub states_of : DescriptionValue → SuspendMode → ℕ → Option (List ℕ)
states_of d mode word = states_if d mode (row_of d word)

-- a word that is no power state in either format
abbrev pub no_state : ℕ
no_state = 0xFFFFFFFF

-- the word of the board that asks these depths
abbrev pub word_asking : Format → List ℕ → ℕ
word_asking format depths = if is_ask depths then word_of format depths else no_state

-- the word of the board for these states
abbrev pub word_for : DescriptionValue → Format → Option (List ℕ) → ℕ
word_for d format None = no_state
word_for d format (Some states) = word_asking format (depths_of d states)

-- what the words of a row are to the firmware, on a board of this format
abbrev pub reading_of : DescriptionValue → Format → Row → Reading
reading_of d format row = record {
  row = row;
  word = word_for d format (Some row.states);
  is_first = can_ask d Platform row.states;
}

-- the same, for what is found out of a row
abbrev pub can_ask_by : Reading → SuspendMode → Bool
can_ask_by r OsInitiated = true
can_ask_by r Platform = r.is_first
