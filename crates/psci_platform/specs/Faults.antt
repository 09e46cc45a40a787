-- The faults of a description, the first one first.
use Rattle.std.specs.Prelude.{◌%◌, ◌&&◌, ◌+◌, ◌-◌, ◌/◌, ◌==◌, ◌^◌, ◌||◌, ◌∷◌, [], Bool}
use Rattle.std.specs.Prelude.{if◌then◌else◌, length, List, nat_le, nat_lt, None, not, Option}
use Rattle.std.specs.Prelude.{slice_index, Some, ℕ}
use Rattle.std.specs.Int.Bits.{bit_and}
use Rattle.std.specs.List.{list_any, list_all, count_by, range_with_len}
use Rattle.psci_abi.specs.declared.registers.Format.{Format}
use Rattle.psci_abi.specs.declared.registers.Format.TheVariants.{Original, Extended}
use Rattle.psci_board.specs.Board.{BoardValue, cores, height}
use Rattle.psci_state.specs.PowerState.{is_ask, deepest_of, power_down, running}
use Rattle.psci_platform.specs.declared.class.TheConstants.{STATES}
use Rattle.psci_platform.specs.Cores.{boot_place}
use Rattle.psci_platform.specs.Described.{DescriptionValue}
use Rattle.psci_platform.specs.declared.fault.PlatformFault.{PlatformFault}
use Rattle.psci_platform.specs.declared.fault.PlatformFault.TheVariants as faults
use Rattle.psci_platform.specs.declared.row.Row.{Row}
use Rattle.psci_platform.specs.States.{depth_at, depths_of}
use Rattle.psci_platform.specs.Swaps.{is_symmetric}

-- MPIDRs --------------------------------------------------------------------------------------

-- only the affinity fields have bits: Aff3 in bits 39:32, Aff2 to Aff0 in bits 23:0
abbrev pub is_mpidr : ℕ → Bool
is_mpidr mpidr = mpidr / 2 ^ 40 == 0 && mpidr / 2 ^ 24 % 2 ^ 8 == 0

-- two cores have one MPIDR
abbrev pub has_same : List ℕ → Bool
has_same mpidrs = list_any (λ x. nat_lt 1 (count_by (λ y. y == x) mpidrs)) mpidrs

-- some core is the boot core
abbrev pub has_boot : List ℕ → ℕ → Bool
has_boot mpidrs boot = list_any (λ x. x == boot) mpidrs

-- the boot core is the first one of the tree, or is swapped with it
abbrev pub is_first : DescriptionValue → BoardValue → ℕ → Bool
is_first d b boot = slice_index d.mpidrs 0 == boot || is_symmetric b (boot_place d b boot)

-- States --------------------------------------------------------------------------------------

-- no class of a level is shallower than that of the number before
unfoldable pub never_falls : DescriptionValue → ℕ → Bool
never_falls d level =
    list_all (λ n. nat_le (depth_at d level n) (depth_at d level (n + 1)))
    (range_with_len 0 (STATES - 1))

-- state 0 of a level is running, and no class is shallower than that of the number before
abbrev pub rises : DescriptionValue → ℕ → Bool
rises d level =
    depth_at d level 0 == running && never_falls d level

-- above these levels nothing is asked
abbrev pub is_running_above : ℕ → List ℕ → Bool
is_running_above levels states =
    list_all (λ level. nat_le level levels || slice_index states level == 0) (1 ∷ 2 ∷ 3 ∷ [])

-- all states are such as the platform has, and above its levels nothing is asked
abbrev pub are_states : DescriptionValue → List ℕ → Bool
are_states d states = list_all (λ n. nat_lt n STATES) states && is_running_above d.levels states

-- Rows ----------------------------------------------------------------------------------------

-- how many rows there may be
abbrev pub most_rows : ℕ
most_rows = 64

-- the reserved bits of a format, 31:26 and 23:17 of the original one, 31 and 29:28 of the extended
abbrev pub reserved : Format → ℕ
reserved Original = 0xFCFE0000
reserved Extended = 0xB0000000

-- StateType of a format, bit 16 or bit 30: power-down
abbrev pub state_type : Format → ℕ
state_type Original = 0x00010000
state_type Extended = 0x40000000

-- a row reads these bits just so: they count, and are those of the word
abbrev pub has_bits : Row → ℕ → ℕ → Bool
has_bits row bits value = bit_and row.mask bits == bits && bit_and row.word bits == value

-- the row reads words whose reserved bits are zero, and its own word has no bit that does not count
abbrev pub is_row_word : Format → Row → Bool
is_row_word format row = bit_and row.word row.mask == row.word && has_bits row (reserved format) 0

-- two rows read one word: their words have the same bits, where a bit counts in both
abbrev pub meet : Row → Row → Bool
meet r s = bit_and r.word s.mask == bit_and s.word r.mask

-- some word is read by two rows
abbrev pub has_same_word : List Row → Bool
has_same_word rows = list_any (λ r. nat_lt 1 (count_by (meet r) rows)) rows

-- the core powers down
abbrev pub is_deep_row : DescriptionValue → Row → Bool
is_deep_row d row = depth_at d 0 (slice_index row.states 0) == power_down

-- the row reads words that say power-down exactly where the core powers down
abbrev pub has_type : DescriptionValue → Format → Row → Bool
has_type d format row =
    has_bits row (state_type format) (if is_deep_row d row then state_type format else 0)

-- the states of a row are a power state: the core stops, and no class grows upwards
abbrev pub is_power_state : DescriptionValue → Row → Bool
is_power_state d row = are_states d row.states && is_ask (depths_of d row.states)

-- Functions -----------------------------------------------------------------------------------

-- SYSTEM_SUSPEND powers down every level of a board of this height, as the firmware asks
abbrev pub is_system : DescriptionValue → ℕ → Bool
is_system d height =
    are_states d d.system
    && list_all (λ level. depth_at d level (slice_index d.system level)
    == slice_index (deepest_of height) level) (0 ∷ 1 ∷ 2 ∷ 3 ∷ [])

-- each function has those that it needs: a core that is off is asked on again, the system is
-- suspended by its last core, and a reset of the vendor has bit 31 and is one of SYSTEM_RESET2
abbrev pub have_needs : DescriptionValue → Bool
have_needs d =
    let f = d.functions in
    (f.cpu_on || not f.cpu_off) && (f.cpu_suspend || not f.system_suspend)
    && list_all (λ own. nat_le (2 ^ 31) own) d.resets
    && (f.system_reset2 || length d.resets == 0)

-- The first fault -----------------------------------------------------------------------------

-- of the states of the rows and what follows them
unfoldable pub state_fault_of : DescriptionValue → BoardValue → Option PlatformFault
state_fault_of d b =
    (if not (list_all (has_type d b.format) d.rows) then Some faults.WrongType
    else (if not (list_all (is_power_state d) d.rows) then Some faults.BadStates
    else (if d.functions.system_suspend && not (is_system d (height b)) then Some faults.BadSystem
    else (if not (have_needs d) then Some faults.BadFunctions
    else None))))

-- of the rows and what follows them
unfoldable pub row_fault_of : DescriptionValue → BoardValue → Option PlatformFault
row_fault_of d b =
    (if nat_lt most_rows (length d.rows) then Some faults.TooManyRows
    else (if not (list_all (is_row_word b.format) d.rows) then Some faults.BadWord
    else (if has_same_word d.rows then Some faults.SameWord
    else state_fault_of d b)))

-- of the boot core and what follows it
unfoldable pub boot_fault_of : DescriptionValue → BoardValue → ℕ → Option PlatformFault
boot_fault_of d b boot =
    (if not (has_boot d.mpidrs boot) then Some faults.NoBootCore
    else (if not (is_first d b boot) then Some faults.LateBootCore
    else (if nat_lt (height b) d.levels then Some faults.TooManyLevels
    else (if not (list_all (rises d) (0 ∷ 1 ∷ 2 ∷ 3 ∷ [])) then Some faults.FallingClass
    else row_fault_of d b))))

-- of a description of a platform with this board and this boot core
unfoldable pub fault_of : DescriptionValue → BoardValue → ℕ → Option PlatformFault
fault_of d b boot =
    (if not (length d.mpidrs == cores b) then Some faults.WrongCount
    else (if not (list_all is_mpidr d.mpidrs) then Some faults.BadMpidr
    else (if has_same d.mpidrs then Some faults.SameMpidr
    else boot_fault_of d b boot)))
