-- A turn: what happens in one critical section of a machine whose cores stand while they are in it,
-- as a hypervisor's vCPUs do.
use Rattle.std.specs.Prelude.{◌∷◌, ◌≡◌, [], if◌then◌else◌, List, None, Option, option_map, Some}
use Rattle.std.specs.Prelude.{ℕ}
use Rattle.psci_headline.specs.psci_board.Board.{BoardValue}
use Rattle.psci_messages.specs.Message.{MessageValue}
use Rattle.psci_messages.specs.declared.kind.Kind.{Kind}
use Rattle.psci_messages.specs.declared.kind.Kind.TheVariants as kinds
use Rattle.psci_headline.specs.psci_world_spec.psci_abi.declared.registers.Regs.{Regs}
use Rattle.psci_headline.specs.psci_world_spec.declared.event.Event.{Event}
use Rattle.psci_headline.specs.psci_world_spec.declared.event.Event.TheVariants.{Call, Enter}
use Rattle.psci_headline.specs.psci_world_spec.declared.event.Event.TheVariants.{Reset, Wake}
use Rattle.psci_headline.specs.psci_world_spec.declared.place.Place.TheVariants.{Stopped}
use Rattle.psci_headline.specs.psci_world_spec.declared.said.Record.{Record}
use Rattle.psci_headline.specs.psci_world_spec.declared.said.Said.{Said}
use Rattle.psci_headline.specs.psci_world_spec.declared.said.Said.TheVariants.{Fw}
use Rattle.psci_headline.specs.psci_world_spec.Legal.{controller_values, IsLegalPast, legal}
use Rattle.psci_headline.specs.psci_world_spec.Legal.{place}
use Rattle.psci_headline.specs.Complete.{IsToldWhole}
use Rattle.psci_headline.specs.Settling.{all_cores, AreAtRest, each_core, is_started, serving}
use Rattle.psci_headline.specs.Settling.{step}
use Rattle.psci_headline.specs.Safe.{AlwaysSafe}

-- What begins a turn.
pub data Turn : Type 0 where
  -- a core calls with these registers
  Calls : (core : ℕ) → (regs : Regs) → Turn
  -- a core has a wake-up event
  Wakes : (core : ℕ) → Turn
  -- a core is reset by itself
  Resets : (core : ℕ) → Turn

-- the same as an event
abbrev pub event_of : Turn → Event
event_of (Calls core regs) = Call core regs
event_of (Wakes core) = Wake core
event_of (Resets core) = Reset core

-- the number of the message that was sent, if one was
abbrev pub number_in : Said → Option ℕ
number_in (Fw act sends) = option_map (λ s. s.index) sends
number_in said = None

-- An exchange: something happens, the message that this sends is delivered, and its acknowledgement
-- is taken.
unfoldable pub exchange : BoardValue → List Record → Event → List Record
exchange b past event = serving b (step b past event) (number_in (legal b past event))

-- a core that was started enters
abbrev pub arriving : BoardValue → List Record → ℕ → List Record
arriving b past c = if is_started (place b past c) then exchange b past (Enter c) else past

-- each core that was started does
unfoldable pub arrived : BoardValue → List Record → List Record
arrived b past = each_core (arriving b) (all_cores b) past

-- a whole turn
abbrev pub turn : BoardValue → List Record → Turn → List Record
turn b past t = arrived b (exchange b past (event_of t))

-- all turns since the machine came on, newest first: before them the boot core entered
unfoldable pub turns : BoardValue → List Turn → List Record
turns b [] = arrived b []
turns b (t ∷ ts) = turn b (turns b ts) t

-- Which core may be started -----------------------------------------------------------------------

-- the core that a message of this kind may start: its own, or where a life begins the boot core
abbrev pub core_started : MessageValue → Kind → Option ℕ
core_started m kinds.Down = None
core_started m kinds.Start = Some m.core.number
core_started m kinds.Off = Some 0
core_started m kinds.Reset = Some 0

-- the same of what was sent, if something was
abbrev pub started_by : Option MessageValue → Option ℕ
started_by None = None
started_by (Some m) = core_started m m.kind

-- Settled -----------------------------------------------------------------------------------------

-- What holds between two turns.
pub record IsSettled (b : BoardValue) (past : List Record) : Type 0 where
  -- all that happened is a legal run of the world, and was safe at every moment
  pub legal : IsLegalPast b past
  pub safe : AlwaysSafe b past
  -- in a life nothing is outstanding, firmware and power controller agree on each domain, and all
  -- is told; and no life is on its way to its end
  pub rest : (life : ℕ) → (controller_values b past).life ≡ Some life → AreAtRest b past
  pub told : (life : ℕ) → (controller_values b past).life ≡ Some life → IsToldWhole b past
  -- without a life every core stands
  pub over : (controller_values b past).life ≡ None → (c : ℕ) → place b past c ≡ Stopped
