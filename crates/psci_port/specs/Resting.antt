-- Which acts are due in a port, and where it is at rest.
use Rattle.std.specs.Prelude.{◌≡◌, ℕ, zero, suc, ◌+◌, ◌<◌, Bool, true, false, ◌==◌, ◌&&◌}
use Rattle.std.specs.Prelude.{if◌then◌else◌, Option, None, Some, ◌⊎◌}
use Rattle.psci_board.specs.Board.{BoardValue, cores}
use Rattle.psci_ctl_spec.specs.psci_messages.Message.{MessageValue}
use Rattle.psci_ctl_spec.specs.psci_messages.declared.start.Cause.{Cause}
use Rattle.psci_ctl_spec.specs.psci_messages.declared.start.Cause.TheVariants as causes
use Rattle.psci_ctl_spec.specs.psci_messages.declared.start.Start.{Start}
use Rattle.psci_ctl_spec.specs.declared.call.CtlCall.TheVariants as asked
use Rattle.psci_ctl_spec.specs.Replies.{last_start}
use Rattle.psci_world_spec.specs.declared.event.Event.{Event}
use Rattle.psci_world_spec.specs.declared.event.Event.TheVariants.{Take}
use Rattle.psci_world_spec.specs.declared.said.Record.{Record}
use Rattle.psci_port.specs.Stages.{Stage, Standing, AtDoor, Entering, Normal, Leaving, Armed, Woken}
use Rattle.psci_port.specs.Port.{Port, Row, Act, Locks, Unlocks, Enters, Finishes, TakesUp, Stands}
use Rattle.psci_port.specs.Port.{Arms, Sleeps, Writes, Turns, Opens, stage_at, words}
use Rattle.psci_port.specs.Rules.{May}
use Rattle.psci_port.specs.Waiting.{waits}

-- Acts that are due ------------------------------------------------------------------------------

-- a core is on its way into the firmware
abbrev pub is_entering : Stage → Bool
is_entering Standing = false
is_entering AtDoor = false
is_entering (Entering s) = true
is_entering Normal = false
is_entering Leaving = false
is_entering Armed = false
is_entering Woken = false

-- why a core was started, as a number
abbrev pub cause_code : Cause → ℕ
cause_code causes.Boot = 0
cause_code causes.On = 1
cause_code causes.Wake = 2
cause_code causes.Reset = 3

-- one start stands at a door, or none, and it is this one
abbrev pub is_shown : Option Start → Option Start → Bool
is_shown None None = true
is_shown None (Some t) = false
is_shown (Some s) None = false
is_shown (Some s) (Some t) =
    s.life == t.life && (s.number == t.number && cause_code s.cause == cause_code t.cause)

-- What a port does by itself: its cores go their way from the door to the normal world, and from
-- their last call to their stop; and the power controller serves the doors. Calls, interrupts and
-- resets come from outside, and so do frames.
abbrev pub Goes : BoardValue → Port → Act → Type 0
Goes b p (Locks c) = is_entering (stage_at p c) ≡ true
Goes b p (Unlocks c) = (c < cores b) × (is_entering (stage_at p c) ≡ false)
Goes b p (Enters c said) = Unit {0}
Goes b p (Finishes c) = c < cores b
Goes b p (TakesUp c) = c < cores b
Goes b p (Stands c) = c < cores b
Goes b p (Arms c) = c < cores b
Goes b p (Sleeps c) = c < cores b
Goes b p (Turns c) = c < cores b
Goes b p (Writes c) =
    (c < cores b) × (is_shown (p.row c).door (last_start p.values c) ≡ false)
Goes b p (Opens c) = (c < cores b) × (((p.row c).opened == p.values.starts c) ≡ false)
Goes b p act = ⊥

-- and it waits for nothing
abbrev pub IsDue : BoardValue → Port → Act → Type 0
IsDue b p act = May b p act × Goes b p act

-- How much is due --------------------------------------------------------------------------------

-- who has the lock
abbrev pub has_lock : Option ℕ → ℕ → Bool
has_lock None c = false
has_lock (Some d) c = c == d

-- how many acts a core is from its rest, of which it has begun no call, with the lock or without it
abbrev pub own_left : Bool → Stage → ℕ
own_left has Standing = 0
own_left has AtDoor = 0
own_left has (Entering s) = if has then 7 else 8
own_left has Normal = if has then 1 else 0
own_left has Leaving = if has then 4 else 3
own_left has Armed = if has then 2 else 1
own_left has Woken = if has then 2 else 1

-- the same within a call: that of an acknowledgement leaves it where it is
abbrev pub call_left : Event → ℕ → ℕ
call_left (Take k) own = own + 1
call_left event own = 6

-- the steps that are left to a core at its stage, by whether it has the lock and what it has begun
abbrev pub stage_left : Bool → Option Record → Stage → ℕ
stage_left has None y = own_left has y
stage_left has (Some r) y = call_left r.event (own_left has y)

-- what is left to do at its door
abbrev pub door_left : ℕ → Option Start → Row → ℕ
door_left s l r = (if is_shown r.door l then 0 else 1) + (if r.opened == s then 0 else 1)

-- and of its start
abbrev pub start_left : ℕ → Row → ℕ
start_left s r = if r.used == s then 0 else 10

-- all that is left to a core, by its row
abbrev pub row_left : Bool → ℕ → Option Start → Row → ℕ
row_left has s l r = door_left s l r + (start_left s r + stage_left has r.begun r.stage)

-- the same of this core
abbrev pub core_left : Port → ℕ → ℕ
core_left p c =
    row_left (has_lock p.lock c) (p.values.starts c) (last_start p.values c) (p.row c)

-- of the first cores
unfoldable pub total : (ℕ → ℕ) → ℕ → ℕ
total f zero = zero
total f (suc n) = f n + total f n

-- of all
abbrev pub left : BoardValue → Port → ℕ
left b p = total (core_left p) (cores b)

-- At rest ----------------------------------------------------------------------------------------

-- A core stands by its word, and has used what stands at its door.
pub record IsQuiet (p : Port) (c : ℕ) : Type 0 where
  pub standing : stage_at p c ≡ Standing
  pub word : words p c ≡ p.values.starts c
  pub opened : (p.row c).opened ≡ p.values.starts c
  pub used : (p.row c).used ≡ p.values.starts c

-- A port is at rest: the lock is free, and each core is quiet, or in the normal world. What waits
-- there, waits for a core of the normal world.
pub record IsAtRest (b : BoardValue) (p : Port) : Type 0 where
  pub free : p.lock ≡ None
  pub each : (c : ℕ) → c < cores b → (stage_at p c ≡ Normal) ⊎ IsQuiet p c
  pub messages : (m : MessageValue) → m.core.number < cores b
      → waits b p.values (words p) (asked.Deliver m) ≡ true → stage_at p m.core.number ≡ Normal
  pub wakes : (c halted : ℕ) → c < cores b
      → waits b p.values (words p) (asked.Wake (record { number = c }) halted) ≡ true
      → stage_at p c ≡ Normal
