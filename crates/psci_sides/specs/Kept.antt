-- What holds of a machine at each moment of each of its runs, in its own words.
use Rattle.std.specs.Prelude.{◌&&◌, ◌<◌, ◌∷◌, ◌≡◌, ◌⊎◌, [], Bool, false, List, None, not, Some}
use Rattle.std.specs.Prelude.{true, ℕ}
use Rattle.psci_board.specs.Board.{BoardValue, HasNode, cores}
use Rattle.psci_board.specs.declared.draft.Node.{Node}
use Rattle.psci_messages.specs.Message.{MessageValue}
use Rattle.psci_messages.specs.Slots.{OfCore, OfSystem, slot_of}
use Rattle.psci_ctl_spec.specs.Replies.{last_start}
use Rattle.psci_fw.specs.Reactions.{seen}
use Rattle.psci_fw_spec.specs.declared.call.FwCall.{FwCall}
use Rattle.psci_fw_spec.specs.declared.status.Status.TheVariants.{Off}
use Rattle.psci_fw_spec.specs.NodeHwState.{hw_at, node_hw}
use Rattle.psci_fw_spec.specs.Phases.{Away}
use Rattle.psci_control.specs.ControlSide.{gate_in, telling, values_of, waits_in, with_gate}
use Rattle.psci_enter.specs.Side.{may_look}
use Rattle.psci_enter.specs.declared.order.Look.TheVariants as look
use Rattle.psci_enter.specs.declared.post.Post.{Post}
use Rattle.psci_enter.specs.declared.post.Post.TheVariants.{Armed, Entering, Leaving, Running}
use Rattle.psci_enter.specs.declared.post.Post.TheVariants.{Waiting, Woken}
use Rattle.psci_port.specs.Kept.{IsLast, KeepsPower}
use Rattle.psci_port.specs.Served.{IsSpent}
use Rattle.psci_sides.specs.Machine.{Machine, has_stood, starts_in}
use Rattle.psci_sides.specs.Steps.{BeginEntry, found_in, LookAtDoor, machine, may_hold, Step}
use Rattle.psci_sides.specs.Steps.{wake_of}

-- Where a core is --------------------------------------------------------------------------------

-- it waits at its door, or is below WFI there
abbrev pub is_waiting : Post → Bool
is_waiting Waiting = true
is_waiting (Entering start) = false
is_waiting Running = false
is_waiting Leaving = false
is_waiting Armed = false
is_waiting Woken = false

-- it executes what power may not cut off: all but its looks at its door once it said that it stands
abbrev pub executes : Machine → ℕ → Bool
executes m c = not (has_stood m c && is_waiting (m.side c).post)

-- What holds -------------------------------------------------------------------------------------

-- Power goes under no core that executes this, and nothing above a core is ordered down before
-- the core said that it stands.
abbrev pub NoneCut : BoardValue → Machine → Type 0
NoneCut b m = KeepsPower b (executes m) (has_stood m) m.cut m.depth

-- One core at a time is inside the firmware, and it has the lock.
pub record IsLocked (b : BoardValue) (m : Machine) : Type 0 where
  -- who has the lock is inside a start that it took up, or is armed, though it was started since;
  -- and was not cut off or reset with it
  pub holder : (c : ℕ) → c < cores b → m.lock ≡ Some c → may_hold (m.side c).post ≡ true
  pub inside : (c : ℕ) (call : FwCall) → c < cores b → (m.station c).lent ≡ Some call
      → m.lock ≡ Some c

-- the power controller hears the word of a core
abbrev pub hearing : Machine → ℕ → Machine
hearing m c = record m {
  control = with_gate m.control c (telling (m.station c).word (gate_in m.control.gates c));
}

-- A core that waits or is armed has a start to come at its door, or its wake-up is carried out as
-- soon as the power controller has heard its word: so none is lost between its stop and its WFI.
abbrev pub NoneLost : BoardValue → Machine → Type 0
NoneLost b m = (c : ℕ) → c < cores b → may_look (m.side c).post ≡ true
    → ((m.side c).used < starts_in m c)
    ⊎ (((m.side c).used ≡ starts_in m c)
    × (waits_in (hearing m c).control (wake_of (hearing m c) c) ≡ false))

-- All of it, of one moment.
pub record IsSound (b : BoardValue) (m : Machine) : Type 0 where
  pub power : NoneCut b m
  pub locked : IsLocked b m
  pub wakes : NoneLost b m

-- Starts -----------------------------------------------------------------------------------------

-- a look that takes a start up takes the core's last one, which it did not use before
abbrev pub TakesItsLast : Machine → Step → Type 0
TakesItsLast m (LookAtDoor c pending) = found_in m c pending ≡ look.Enter
    → IsLast (m.station c).door.start (last_start (values_of m.control) c)
    (m.station c).door.opened (m.side c).used (starts_in m c)
-- and it enters by that
TakesItsLast m (BeginEntry c start) = last_start (values_of m.control) c ≡ Some start
TakesItsLast m step = Unit {0}

-- the same of each step of a run
abbrev pub EachTakesItsLast : BoardValue → Machine → List Step → Type 0
EachTakesItsLast b m [] = Unit {0}
EachTakesItsLast b m (x ∷ steps) =
    TakesItsLast (machine b m steps) x × EachTakesItsLast b m steps

-- At rest ----------------------------------------------------------------------------------------

-- a core is in the normal world; or it stands, and has used what stands at its door
pub record IsStill (m : Machine) (c : ℕ) : Type 0 where
  pub opened : (m.station c).door.opened ≡ starts_in m c
  pub used : (m.side c).used ≡ starts_in m c
  pub lent : (m.station c).lent ≡ None
  pub post : ((m.side c).post ≡ Running) ⊎ ((m.side c).post ≡ Waiting)

-- Nothing is due: the lock is free, each core is still, and the firmware has come to the power
-- controller's life, as it does with the first entry.
pub record AllStill (b : BoardValue) (m : Machine) : Type 0 where
  pub free : m.lock ≡ None
  pub each : (c : ℕ) → c < cores b → IsStill m c
  pub life : (values_of m.control).life ≡ Some (seen m.firmware).life
  -- and the system is not being turned off or reset
  pub goes_on : (seen m.firmware).halting ≡ false

-- Nothing is left to serve: no outstanding message would bring anything about.
abbrev pub NoneToServe : BoardValue → Machine → Type 0
NoneToServe b m = (x : MessageValue) → x.core.number < cores b
    → (seen m.firmware).outstanding (slot_of x.kind x.core) ≡ Some x
    → IsSpent b (values_of m.control) x

-- Firmware and power controller agree, and all is told: nothing is outstanding, each domain is as
-- deep as granted and reported so, and exactly the cores that are off are reported OFF.
pub record Agree (b : BoardValue) (m : Machine) : Type 0 where
  pub own : (c : ℕ) → c < cores b → (seen m.firmware).outstanding (OfCore c) ≡ None
  pub system : (seen m.firmware).outstanding OfSystem ≡ None
  pub depths : (n : Node) → HasNode b n
      → (seen m.firmware).granted n.level n.place ≡ m.depth n.level n.place
  pub hw : (n : Node) → HasNode b n
      → node_hw (seen m.firmware) n ≡ hw_at (m.depth n.level n.place)
  pub off : (c : ℕ) → c < cores b → (seen m.firmware).phase c ≡ Away
      → (seen m.firmware).status c ≡ Off
  pub away : (c : ℕ) → c < cores b → (seen m.firmware).status c ≡ Off
      → (seen m.firmware).phase c ≡ Away
