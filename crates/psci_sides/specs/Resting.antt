-- Which steps a machine takes by itself, and where it is at rest.
use Rattle.std.specs.Prelude.{◌≡◌, ℕ, ◌<◌, Bool, true, false, List, [], ◌∷◌, ◌++◌, None, Some}
use Rattle.psci_board.specs.Board.{BoardValue, cores}
use Rattle.psci_messages.specs.Message.{MessageValue}
use Rattle.psci_ctl_spec.specs.declared.call.CtlCall.TheVariants as asked
use Rattle.psci_fw_spec.specs.declared.call.FwCall.{FwCall}
use Rattle.psci_control.specs.ControlSide.{waits_in}
use Rattle.psci_control.specs.declared.door.DoorOrder.{DoorOrder}
use Rattle.psci_enter.specs.Side.{may_look}
use Rattle.psci_enter.specs.declared.order.Look.TheVariants as look
use Rattle.psci_enter.specs.declared.post.Post.{Post}
use Rattle.psci_enter.specs.declared.post.Post.TheVariants.{Waiting, Entering, Running, Leaving}
use Rattle.psci_enter.specs.declared.post.Post.TheVariants.{Armed, Woken}
use Rattle.psci_sides.specs.Kept.{IsStill, hearing}
use Rattle.psci_sides.specs.Machine.{Machine}
use Rattle.psci_sides.specs.Steps.{Step, TakeLock, GiveLock, BeginEntry, EndCall, LookAtDoor, Stand}
use Rattle.psci_sides.specs.Steps.{ServeDoor, ArmCore, SleepCore, TurnCore, Holds, Lacks, due_at}
use Rattle.psci_sides.specs.Steps.{found_in, machine}

-- it is on its way into the firmware
abbrev pub is_entering : Post → Bool
is_entering Waiting = false
is_entering (Entering start) = true
is_entering Running = false
is_entering Leaving = false
is_entering Armed = false
is_entering Woken = false

-- A step is the machine's own and waits for nothing, whatever its method leaves: cores go their way
-- from the door to the normal world, and from their last call to their stop, and doors are served.
-- Calls, interrupts and resets come from outside, and so do frames.
abbrev pub Goes : BoardValue → Machine → Step → Type 0
Goes b m (TakeLock c) =
    (c < cores b) × (m.lock ≡ None) × (is_entering (m.side c).post ≡ true)
Goes b m (GiveLock c) = Holds b m c × (is_entering (m.side c).post ≡ false)
Goes b m (BeginEntry c start) = Holds b m c × ((m.side c).post ≡ Entering start)
Goes b m (EndCall c g) = (c < cores b) × ((call : FwCall) × ((m.station c).lent ≡ Some call))
Goes b m (LookAtDoor c pending) = (c < cores b) × ((m.station c).held ≡ false)
    × (may_look (m.side c).post ≡ true) × (found_in m c pending ≡ look.Enter) × Lacks m c
Goes b m (Stand c) = (c < cores b) × ((m.side c).post ≡ Leaving) × Lacks m c
Goes b m (ServeDoor c) = (c < cores b) × ((order : DoorOrder) × (due_at m c ≡ Some order))
Goes b m (ArmCore c) = (c < cores b) × ((m.side c).post ≡ Leaving)
Goes b m (SleepCore c) = (c < cores b) × ((m.side c).post ≡ Armed) × Lacks m c
Goes b m (TurnCore c) = (c < cores b) × ((m.side c).post ≡ Woken) × Lacks m c
Goes b m step = ⊥

-- each of the newest steps is such a step, after these
abbrev pub EachGoes : BoardValue → Machine → List Step → List Step → Type 0
EachGoes b m steps [] = Unit {0}
EachGoes b m steps (x ∷ newest) =
    Goes b (machine b m (newest ++ steps)) x × EachGoes b m steps newest

-- the most such steps, for each core of the board
abbrev pub most_steps : ℕ
most_steps = 21

-- The lock is free, and each core is in the normal world, or stands and has used what stands at its
-- door. A message that waits though its core was heard, waits for a core of the normal world.
pub record IsAtRest (b : BoardValue) (m : Machine) : Type 0 where
  pub free : m.lock ≡ None
  pub each : (c : ℕ) → c < cores b → IsStill m c
  pub messages : (x : MessageValue) → x.core.number < cores b
      → waits_in (hearing m x.core.number).control (asked.Deliver x) ≡ true
      → (m.side x.core.number).post ≡ Running
