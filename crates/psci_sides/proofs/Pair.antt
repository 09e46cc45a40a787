-- A machine of two cores for worked examples, and a run of it: core 0 boots and turns core 1 on,
-- which enters, and goes off. What methods leave is written out.
use Rattle.std.proofs.Common.{reverse}
use Rattle.psci_fw_spec.specs.psci_abi.declared.registers.Format.TheVariants.{Original}
use Rattle.psci_messages.specs.declared.kind.Kind.TheVariants as kinds
use Rattle.psci_messages.specs.declared.start.Cause.TheVariants as causes
use Rattle.psci_state.specs.declared.cores.Activity.{Activity}
use Rattle.psci_state.specs.declared.cores.Activity.TheVariants as activities
use Rattle.psci_fw_spec.specs.declared.mode.SuspendMode.TheVariants.{Platform}
use Rattle.psci_fw_spec.specs.declared.status.Status.TheVariants.{Off, On, Pending}
use Rattle.psci_fw_state.specs.Seen.{values_in}
use Rattle.psci_fw_state.specs.declared.row.CoreRow.{CoreRow}
use Rattle.psci_enter.specs.declared.post.Post.TheVariants.{Leaving, Woken}
use Rattle.psci_world_spec.proofs.Scripts.{computing}
use Rattle.psci_sides.specs.Machine.{carried}
use Rattle.psci_sides.specs.Steps.{after, CutPower, KeepBack, machine}
use Rattle.psci_sides.proofs.Words.{◌++◌, ◌∷◌, [], AckValue, ArmCore, Armed, BeginCall, BeginEntry}
use Rattle.psci_sides.proofs.Words.{BoardValue, Cause, closed, cold, ControlValue, DeliverMail}
use Rattle.psci_sides.proofs.Words.{EndCall, Entering, false, FirmwareValue, Gate, GiveLock, Hear}
use Rattle.psci_sides.proofs.Words.{List, LookAtDoor, Machine, MessageValue, None, Option, Post}
use Rattle.psci_sides.proofs.Words.{Regs, RiseCore, RouseCore, Running, ServeDoor, SleepCore, Some}
use Rattle.psci_sides.proofs.Words.{Stand, Start, Step, TakeAck, TakeLock, TurnCore, Waiting, ℕ}

-- one cluster of two cores
abbrev pub pair : BoardValue
pair = record {
  levels = (2 ∷ []) ∷ [];
  ranges = record { start = 0x40000000; end = 0x40100000 } ∷ [];
  boot = 0x40000000;
  starts = 9;
  lives = 3;
  format = Original;
}

-- The firmware -----------------------------------------------------------------------------------

abbrev boots : CoreRow
boots = record { status = Pending; opening = Some (record { address = 0x40000000; context = 0 }) }

abbrev runs : CoreRow
runs = record { status = On; opening = None }

abbrev is_off : CoreRow
is_off = record { status = Off; opening = None }

abbrev comes : CoreRow
comes = record { status = Pending; opening = Some (record { address = 0x40001000; context = 7 }) }

-- in this life, of core 0 and of core 1
abbrev firmware : ℕ → CoreRow → ℕ → CoreRow → Activity → ℕ → ℕ → Option MessageValue
    → FirmwareValue
firmware life row known other activity other_known granted slot = record {
  board = pair;
  life = life;
  halting = false;
  mode = Platform;
  tree = record {
    levels = (2 ∷ []) ∷ [];
    cores = record { activity = activities.Active; known = known }
        ∷ record { activity = activity; known = other_known } ∷ [];
    granted = (0 ∷ granted ∷ []) ∷ (0 ∷ []) ∷ [];
    confirmed = (0 ∷ granted ∷ []) ∷ (0 ∷ []) ∷ [];
  };
  rows = row ∷ other ∷ [];
  counts = (record { on = 1; pending = 0 } ∷ []) ∷ [];
  slots = record { cores = None ∷ slot ∷ []; system = None };
}

abbrev pub anew : FirmwareValue
anew = firmware 0 boots 0 is_off activities.Away 0 3 None

abbrev pub booted : FirmwareValue
booted = firmware 1 runs 1 is_off activities.Away 0 3 None

-- the message by which core 1 is turned on, and that by which it goes off
abbrev pub on_message : MessageValue
on_message = record {
  kind = kinds.Start;
  core = record { number = 1 };
  life = 1;
  number = 0;
  parts = [];
}

abbrev pub off_message : MessageValue
off_message = record {
  kind = kinds.Down;
  core = record { number = 1 };
  life = 1;
  number = 1;
  parts = record { level = 0; depth = 3; generation = 1 } ∷ [];
}

abbrev called_on : FirmwareValue
called_on = firmware 1 runs 1 comes activities.Active 0 0 (Some on_message)

abbrev taken_on : FirmwareValue
taken_on = firmware 1 runs 1 comes activities.Active 0 0 None

abbrev both_on : FirmwareValue
both_on = firmware 1 runs 1 runs activities.Active 1 0 None

abbrev called_off : FirmwareValue
called_off = firmware 1 runs 1 runs activities.Away 1 3 (Some off_message)

abbrev taken_off : FirmwareValue
taken_off = firmware 1 runs 1 is_off activities.Away 1 3 None

-- The power controller ---------------------------------------------------------------------------

-- core 1 was started so often, and is so deep; its gate and that of core 0
abbrev pub control : ℕ → ℕ → Gate → Gate → ControlValue
control starts depth gate other = record {
  controller = record {
    board = pair;
    life = Some 1;
    cores = record { starts = 1; cause = causes.Boot }
        ∷ record { starts = starts; cause = causes.On } ∷ [];
    domains = (record { depth = 0; starts = 1 } ∷ record { depth = depth; starts = starts } ∷ [])
        ∷ (record { depth = 0; starts = starts } ∷ []) ∷ [];
  };
  gates = gate ∷ other ∷ [];
}

abbrev pub first_start : Start
first_start = record { life = 1; number = 1; cause = causes.Boot }

abbrev pub on_start : Start
on_start = record { life = 1; number = 1; cause = causes.On }

abbrev open_door : Start → ℕ → Gate
open_door start word =
    record { written = Some start; opened = 1; word = word; waiting = None }

-- An acknowledgement of a message whose parts, or which itself, was carried out.
abbrev pub ack_of : MessageValue → AckValue
ack_of m = record {
  kind = m.kind;
  core = m.core;
  life = m.life;
  number = m.number;
  applied = 1;
  stale = false;
}

-- The run ----------------------------------------------------------------------------------------

abbrev pub start : Machine
start = cold pair anew (control 0 3 closed closed)

-- steps in their order
unfoldable pub done : List Step → Machine
unfolding machine
done steps = machine pair start (reverse steps)

abbrev cpu_on : Regs
cpu_on = record { x0 = 0xc4000003; x1 = 1; x2 = 0x40001000; x3 = 7 }

abbrev pub cpu_off : Regs
cpu_off = record { x0 = 0x84000002; x1 = 0; x2 = 0; x3 = 0 }

-- core 0 goes through its door and enters
abbrev pub boot : List Step
boot = ServeDoor 0 ∷ ServeDoor 0 ∷ LookAtDoor 0 false ∷ TakeLock 0 ∷ BeginEntry 0 first_start
    ∷ EndCall 0 booted ∷ GiveLock 0 ∷ []

-- it turns core 1 on, and the power controller starts that
abbrev pub turns_on : List Step
turns_on = boot ++ (TakeLock 0 ∷ BeginCall 0 cpu_on ∷ EndCall 0 called_on ∷ GiveLock 0
    ∷ DeliverMail on_message (control 1 0 (open_door first_start 0) closed) anew ∷ [])

-- core 1 goes through its door and enters, with the acknowledgement taken
abbrev pub open_on : List Step
open_on = turns_on ++ (ServeDoor 1 ∷ ServeDoor 1 ∷ [])

abbrev pub looked_on : List Step
looked_on = open_on ++ (LookAtDoor 1 false ∷ [])

abbrev pub both_run : List Step
both_run = looked_on ++ (TakeLock 1 ∷ TakeAck 1 (ack_of on_message) taken_on
    ∷ BeginEntry 1 on_start ∷ EndCall 1 both_on ∷ GiveLock 1 ∷ [])

abbrev pub inside_a_call : List Step
inside_a_call = both_run ++ (TakeLock 1 ∷ BeginCall 1 cpu_off ∷ [])

-- it calls CPU_OFF, and has the lock
abbrev pub inside_off : List Step
inside_off = both_run ++ (TakeLock 1 ∷ BeginCall 1 cpu_off ∷ EndCall 1 called_off ∷ [])

-- its message waits; it stands, and its word is heard
abbrev pub stands_off : List Step
stands_off = inside_off ++ (KeepBack off_message ∷ GiveLock 1 ∷ Stand 1 ∷ Hear 1 ∷ [])

-- then its message is delivered once more, its power goes, and core 0 takes the acknowledgement
abbrev pub goes_off : List Step
goes_off = stands_off
    ++ (DeliverMail off_message
    (control 1 3 (open_door first_start 0) (open_door on_start 1)) anew ∷ CutPower 0 1
    ∷ TakeLock 0 ∷ TakeAck 0 (ack_of off_message) taken_off ∷ GiveLock 0 ∷ [])

-- The power controller in the monitors ----------------------------------------------------------

-- core 1 says with the lock in hand that it stands, and carries out its own Down
abbrev pub arms_off : List Step
arms_off = inside_off ++ (ArmCore 1 ∷ Hear 1
    ∷ DeliverMail off_message (control 1 3 (open_door first_start 0) (open_door on_start 1)) anew
    ∷ [])

-- it comes to its WFI without the lock, and its power goes
abbrev pub sleeps_off : List Step
sleeps_off = arms_off ++ (GiveLock 1 ∷ SleepCore 1 ∷ CutPower 0 1 ∷ [])

-- an interrupt brings it back
abbrev pub roused_off : List Step
roused_off = sleeps_off ++ (RouseCore 1 ∷ [])

-- the power controller that has started it again
abbrev pub started_again : Cause → ControlValue
started_again cause =
    let s = control 2 0 (open_door first_start 0) (open_door on_start 1) in record s {
      controller = record s.controller {
        cores = record { starts = 1; cause = causes.Boot }
            ∷ record { starts = 2; cause = cause } ∷ [];
      };
    }

-- it tells its own wake-up with the lock in hand, and goes to its door without
abbrev pub rises_off : List Step
rises_off = roused_off ++ (TakeLock 1 ∷ RiseCore 1 (started_again causes.Wake) ∷ [])

abbrev pub turns_off : List Step
turns_off = rises_off ++ (GiveLock 1 ∷ TurnCore 1 ∷ [])

-- or core 0 has it started meanwhile, by one more message
abbrev pub on_again : MessageValue
on_again = record on_message { number = 1 }

abbrev pub started_armed : List Step
started_armed = roused_off ++ (DeliverMail on_again (started_again causes.On) anew ∷ [])

-- a Down of that start
abbrev pub off_again : MessageValue
off_again = record off_message {
  number = 2;
  parts = record { level = 0; depth = 3; generation = 2 } ∷ [];
}

-- where a monitor is, as a number
abbrev pub code : Post → ℕ
code Waiting = 0
code (Entering s) = 1
code Running = 2
code Leaving = 3
code Armed = 4
code Woken = 5

-- what examples unfold
unfoldable pub playing : Unit {0}
unfolding computing done machine after carried values_in
playing = tt
