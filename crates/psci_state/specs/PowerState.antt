-- Power state words: the parameter power_state of CPU_SUSPEND (DEN0022D), in both formats.
use Rattle.std.specs.Prelude.{◌%◌, ◌&&◌, ◌*◌, ◌+◌, ◌-◌, ◌/◌, ◌==◌, ◌^◌, ◌∷◌, ◌≡◌, ◌≤◌, [], Bool}
use Rattle.std.specs.Prelude.{Err, if◌then◌else◌, length, List, map, min, nat_le, nat_lt, None}
use Rattle.std.specs.Prelude.{Ok, Option, Result, slice_index, Some, unwrap_or, ℕ}
use Rattle.psci_abi.specs.declared.registers.Format.{Format}
use Rattle.psci_abi.specs.declared.registers.Format.TheVariants.{Extended, Original}
use Rattle.psci_state.specs.declared.fault.BadState.{BadState}

-- Depths, and asks: a depth for each level from 0 to 3 --------------------------------------------

-- the levels of an ask: the core's, 0, and three above it
abbrev pub level_count : ℕ
level_count = 4

-- the depth of a power domain that is fully on
abbrev pub running : ℕ
running = 0

-- the depth of standby
abbrev pub standby : ℕ
standby = 1

-- the depth of retention
abbrev pub retention : ℕ
retention = 2

-- the deepest depth, power-down
abbrev pub power_down : ℕ
power_down = 3

-- One depth for each level. The core itself stops, and no depth grows upwards.
pub record IsAsk (depths : List ℕ) : Type 0 where
  pub levels : length depths ≡ level_count
  pub least : standby ≤ slice_index depths 0
  pub most : slice_index depths 0 ≤ power_down
  pub falls : (level : ℕ) → slice_index depths (level + 1) ≤ slice_index depths level

-- the same as a test
abbrev pub is_ask : List ℕ → Bool
is_ask depths =
    length depths == level_count
    && nat_le standby (slice_index depths 0) && nat_le (slice_index depths 0) power_down
    && nat_le (slice_index depths 1) (slice_index depths 0)
    && nat_le (slice_index depths 2) (slice_index depths 1)
    && nat_le (slice_index depths 3) (slice_index depths 2)

-- power-down up to the height
abbrev pub deepest_of : ℕ → List ℕ
deepest_of height =
    map (λ level. if nat_le level height then power_down else running) (0 ∷ 1 ∷ 2 ∷ 3 ∷ [])

-- the highest level of which something is asked
abbrev pub highest_of : List ℕ → ℕ
highest_of ask =
    (if nat_lt 0 (slice_index ask 3) then 3
    else (if nat_lt 0 (slice_index ask 2) then 2
    else (if nat_lt 0 (slice_index ask 1) then 1
    else 0)))

-- the core itself is asked to power down
abbrev pub is_deep : List ℕ → Bool
is_deep ask = slice_index ask 0 == power_down

-- the least of these depths
abbrev pub least : List ℕ → ℕ
least [] = power_down
least (d ∷ ds) = min d (least ds)

-- Power state -------------------------------------------------------------------------------------

-- bits high:low of a word, as a number
abbrev pub bits : ℕ → ℕ → ℕ → ℕ
bits word high low = word / 2 ^ low % 2 ^ (high + 1 - low)

-- StateID
abbrev pub state_id : Format → ℕ → ℕ
state_id Original word = bits word 15 0
state_id Extended word = bits word 27 0

-- StateType: 0 for standby or retention, 1 for power-down
abbrev pub state_type : Format → ℕ → ℕ
state_type Original word = bits word 16 16
state_type Extended word = bits word 30 30

-- PowerLevel, which the extended format does not have
abbrev pub power_level : Format → ℕ → Option ℕ
power_level Original word = Some (bits word 25 24)
power_level Extended word = None

-- The reserved bits are zero.
abbrev pub reserved_is_zero : Format → ℕ → Bool
reserved_is_zero Original word = bits word 31 26 == 0 && bits word 23 17 == 0
reserved_is_zero Extended word = bits word 31 31 == 0 && bits word 29 28 == 0

-- the depths that a state id asks, four bits for each level
abbrev pub asked : ℕ → List ℕ
asked id = bits id 3 0 ∷ bits id 7 4 ∷ bits id 11 8 ∷ bits id 15 12 ∷ []

-- PowerLevel is this level, where the format has it
abbrev pub has_level : Format → ℕ → ℕ → Bool
has_level format word level = unwrap_or (power_level format word) level == level

-- StateType of an ask
abbrev pub type_of : List ℕ → ℕ
type_of ask = if is_deep ask then 1 else 0

-- a state id asks nothing above level 3, and its depths are an ask
abbrev pub is_state_id : ℕ → Bool
is_state_id id = nat_lt id (2 ^ 16) && is_ask (asked id)

-- Which words are power states on a board of this height: their reserved bits are zero, StateID
-- holds an ask that asks nothing above the height, PowerLevel is the highest level of which it asks
-- something, and StateType says whether the core powers down.
abbrev pub is_power_state : Format → ℕ → ℕ → Bool
is_power_state format height word =
    let id = state_id format word in
    let level = highest_of (asked id) in
    reserved_is_zero format word && is_state_id id && nat_le level height
    && has_level format word level && state_type format word == type_of (asked id)

-- the ask of a power state word
abbrev pub ask_of : Format → ℕ → ℕ → Result (List ℕ) BadState
ask_of format height word =
    if is_power_state format height word then Ok (asked (state_id format word)) else Err (record {})

-- the state id of an ask
abbrev pub id_of : List ℕ → ℕ
id_of ask =
    slice_index ask 0 + 2 ^ 4 * slice_index ask 1 + 2 ^ 8 * slice_index ask 2
    + 2 ^ 12 * slice_index ask 3

-- the word of an ask: StateID, StateType and PowerLevel
abbrev pub word_of : Format → List ℕ → ℕ
word_of Original ask = id_of ask + 2 ^ 16 * type_of ask + 2 ^ 24 * highest_of ask
word_of Extended ask = id_of ask + 2 ^ 30 * type_of ask
