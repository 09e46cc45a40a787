-- What is kept of cores and of power domains.
use Rattle.std.specs.Prelude.{[], Bool, false, if◌then◌else◌, length, List, nat_le, nat_lt}
use Rattle.std.specs.Prelude.{slice_index, slice_index_or, true, unwrap_or, ℕ}
use Rattle.psci_state.specs.PowerState.{IsAsk, power_down, running}
use Rattle.psci_state.specs.declared.cores.CoreState.{CoreState}
use Rattle.psci_state.specs.declared.cores.Change.{Change}
use Rattle.psci_state.specs.declared.cores.Activity.{Activity}
use Rattle.psci_state.specs.declared.cores.Activity.TheVariants.{Active, Suspended, Away}

-- One core -------------------------------------------------------------------------------------

-- the depth that a core asks of its domain of this level, where the board has such a level
abbrev pub asks : Activity → ℕ → ℕ
asks Active level = running
asks (Suspended depths) level = slice_index depths level
asks Away level = power_down

-- whether a core is running or pending
abbrev pub is_active : Activity → Bool
is_active Active = true
is_active (Suspended depths) = false
is_active Away = false

-- whether a core is off or going off
abbrev pub is_away : Activity → Bool
is_away Active = false
is_away (Suspended depths) = false
is_away Away = true

-- what a core can be found doing: the depths of a suspended one are those of a power state, 1 to 3
-- for the core itself and never growing upwards
abbrev pub IsActivity : Activity → Type 0
IsActivity Active = Unit {0}
IsActivity (Suspended depths) = IsAsk depths
IsActivity Away = Unit {0}

-- a core that is off and was never started
abbrev pub never_started : CoreState
never_started = record { activity = Away; known = 0 }

-- what becomes of a core: another activity, and the number of its start, if it was started
abbrev pub core_changed : Change → CoreState → CoreState
core_changed change core = record {
  activity = change.activity;
  known = unwrap_or change.started core.known;
}

-- The cores and domains of a tree --------------------------------------------------------------

-- A tree as contracts see it.
pub record TreeValue : Type 0 where
  -- the board's levels: from level 1 up, how many children each domain of the level has
  pub levels : List (List ℕ)
  -- by the number of the core
  pub cores : List CoreState
  -- granted depths, by level and place
  pub granted : List (List ℕ)
  -- the depths that are confirmed, by level and place: 0 of a domain of which none is
  pub confirmed : List (List ℕ)

-- what is kept of the core of this number
abbrev pub state_at : TreeValue → ℕ → CoreState
state_at t core = slice_index_or t.cores core never_started

-- the depth that this core asks of its domain of this level: the levels end at the board's height,
-- and above it no core asks anything, neither an off one nor one whose power state names a depth
abbrev pub ask_at : TreeValue → ℕ → ℕ → ℕ
ask_at t core level =
    if nat_le level (length t.levels) then asks (state_at t core).activity level else 0

-- the number of this core's last start that was seen to enter, or 0
abbrev pub known_at : TreeValue → ℕ → ℕ
known_at t core = (state_at t core).known

-- running or pending
abbrev pub is_active_at : TreeValue → ℕ → Bool
is_active_at t core = is_active (state_at t core).activity

-- off or going off
abbrev pub is_away_at : TreeValue → ℕ → Bool
is_away_at t core = is_away (state_at t core).activity

-- Granted depths -------------------------------------------------------------------------------

-- the depth that was granted to the domain of this level and place
abbrev pub granted_at : TreeValue → ℕ → ℕ → ℕ
granted_at t level place = slice_index (slice_index_or t.granted level []) place

-- the depth that is confirmed of the domain of this level and place, or 0
abbrev pub confirmed_at : TreeValue → ℕ → ℕ → ℕ
confirmed_at t level place = slice_index (slice_index_or t.confirmed level []) place

-- whether what was granted to the domain of this level and place is confirmed
abbrev pub is_confirmed_at : TreeValue → ℕ → ℕ → Bool
is_confirmed_at t level place = nat_lt 0 (confirmed_at t level place)
