-- The numbers that C is answered, and those that it gives.
use Rattle.std.specs.Prelude.{if◌then◌else◌, ◌==◌, Err, None, Ok, Option, Result, Some, ℕ}
use Rattle.psci_board.specs.declared.fault.BoardFault.{BoardFault}
use Rattle.psci_board.specs.declared.fault.BoardFault.TheVariants.{BadBoot, BadLimit, BadRange}
use Rattle.psci_board.specs.declared.fault.BoardFault.TheVariants.{Grammar, Memory, TooManyCores}
use Rattle.psci_board.specs.declared.fault.BoardFault.TheVariants.{TooWide, Uneven}
use Rattle.psci_fw_spec.specs.declared.fault.FwFault.{FwFault}
use Rattle.psci_fw_spec.specs.declared.fault.FwFault.TheVariants.{NoCore, NoLife, NotRunning}
use Rattle.psci_fw_spec.specs.declared.fault.FwFault.TheVariants.{OldStart}
use Rattle.psci_fw_spec.specs.declared.hw.Hw.{Hw}
use Rattle.psci_fw_spec.specs.declared.status.Status.{Status}
use Rattle.psci_fw_spec.specs.declared.status.Status.TheVariants.{Off, On, Pending}
use Rattle.psci_fw_spec.specs.NodeHwState.{hw_code}
use Rattle.psci_link.specs.declared.parts.FrameFault.{FrameFault}
use Rattle.psci_link.specs.declared.parts.FrameFault.TheVariants as faults
use Rattle.psci_messages.specs.declared.start.Cause.{Cause}
use Rattle.psci_messages.specs.declared.start.Cause.TheVariants as causes
use Rattle.psci_messages.specs.declared.taken.Taken.{Taken}
use Rattle.psci_messages.specs.declared.taken.Taken.TheVariants as takes

-- what a number says of an opening
abbrev pub opened_said : ℕ → Result Unit BoardFault
opened_said code =
    if code == 0 then Ok tt
    else (if code == 1 then Err Grammar
    else (if code == 2 then Err Uneven
    else (if code == 3 then Err TooWide
    else (if code == 4 then Err TooManyCores
    else (if code == 5 then Err BadRange
    else (if code == 6 then Err BadBoot
    else (if code == 7 then Err BadLimit
    else Err Memory)))))))

-- the place is empty
abbrev pub no_firmware : ℕ
no_firmware = 16

-- memory lacks
abbrev pub no_memory : ℕ
no_memory = 8

-- why the firmware refuses a call
abbrev pub refusal : FwFault → ℕ
refusal NoCore = 17
refusal NoLife = 18
refusal NotRunning = 19
refusal OldStart = 20

-- no start has this cause
abbrev pub no_cause : ℕ
no_cause = 21

-- no call wrote what a core's monitor is said to keep
abbrev pub no_side : ℕ
no_side = 48

-- the core's monitor is elsewhere
abbrev pub out_of_order : ℕ
out_of_order = 49

-- why a core was started, by a number
abbrev pub cause_said : ℕ → Option Cause
cause_said number =
    if number == 0 then Some causes.Boot
    else (if number == 1 then Some causes.On
    else (if number == 2 then Some causes.Wake
    else (if number == 3 then Some causes.Reset
    else None)))

-- the first fault of a frame
abbrev pub frame_code : FrameFault → ℕ
frame_code faults.Length = 33
frame_code faults.Magic = 34
frame_code faults.Kind = 35
frame_code faults.Count = 36
frame_code faults.Unused = 37
frame_code faults.Core = 38
frame_code faults.Depth = 39
frame_code faults.Level = 40

-- the frame is one of a message
abbrev pub not_an_ack : ℕ
not_an_ack = 41

-- what became of an acknowledgement
abbrev pub taken_code : Taken → ℕ
taken_code takes.Used = 0
taken_code takes.Old = 1

-- a status as AFFINITY_INFO has it, and no life before any core has entered
abbrev pub status_code : Option Status → ℕ
status_code (Some On) = 0
status_code (Some Off) = 1
status_code (Some Pending) = 2
status_code None = refusal NoLife

-- a hardware state as NODE_HW_STATE has it, and no life before any core has entered
abbrev pub hw_number : Option Hw → ℕ
hw_number (Some hw) = hw_code hw
hw_number None = refusal NoLife
