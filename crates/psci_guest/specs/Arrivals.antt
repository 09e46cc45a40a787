-- Which core runs, and which one was started and enters.
use Rattle.std.specs.Prelude.{◌≡◌, ℕ, ◌<◌, List, Option, None, Some, option_map}
use Rattle.psci_board.specs.Board.{BoardValue, cores}
use Rattle.psci_ctl_spec.specs.Replies.{last_start}
use Rattle.psci_fw_spec.specs.declared.outcome.Outcome.{Outcome}
use Rattle.psci_world_spec.specs.declared.event.Event.TheVariants.{Enter}
use Rattle.psci_world_spec.specs.declared.place.Place.TheVariants.{Running, Started}
use Rattle.psci_world_spec.specs.declared.said.Record.{Record}
use Rattle.psci_world_spec.specs.declared.said.Said.{Said}
use Rattle.psci_world_spec.specs.declared.said.Said.TheVariants.{Fw}
use Rattle.psci_world_spec.specs.Legal.{controller_values, firmware_values, legal, place}
use Rattle.psci_guest.specs.declared.arrival.Arrival.{Arrival}
use Rattle.psci_guest.specs.Pair.{Kept}

-- what both keep after these records
abbrev pub kept_after : BoardValue → List Record → Kept
kept_after b past = record {
  firmware = firmware_values b past;
  controller = controller_values b past;
}

-- Cores ------------------------------------------------------------------------------------------

-- A core runs, in this life.
pub record RunsIn (b : BoardValue) (past : List Record) (life c : ℕ) : Type 0 where
  pub present : (controller_values b past).life ≡ Some life
  pub place : place b past c ≡ Running

-- Arrivals ---------------------------------------------------------------------------------------

-- the firmware's outcome was this
abbrev pub Says : Said → Outcome → Type 0
Says (Fw act sends) o = (act ≡ o.act) × (option_map (λ s. s.message) sends ≡ o.message)
Says said o = ⊥

-- The core that was started, and how it enters.
pub record IsArrival (b : BoardValue) (past : List Record) (a : Arrival) : Type 0 where
  pub core : a.core.number < cores b
  pub started : place b past a.core.number ≡ Started
  pub start : last_start (controller_values b past) a.core.number ≡ Some a.start
  pub says : Says (legal b past (Enter a.core.number)) a.outcome
  -- no other one was
  pub alone : (c : ℕ) → c < cores b → place b past c ≡ Started → c ≡ a.core.number

-- the same of one that there may be
abbrev pub AreArrivals : BoardValue → List Record → Option Arrival → Type 0
AreArrivals b past None = (c : ℕ) → c < cores b → place b past c ≡ Started → ⊥
AreArrivals b past (Some a) = IsArrival b past a
