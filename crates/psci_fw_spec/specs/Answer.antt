-- The one reply to each call, by the values before it.
use Rattle.std.specs.Prelude.{◌&&◌, ◌+◌, ◌==◌, ◌||◌, Bool, Err, false, if◌then◌else◌, nat_le}
use Rattle.std.specs.Prelude.{nat_lt, None, not, Ok, Option, pos, Result, Some, true, ℕ}
use Rattle.psci_abi.specs.Calls.{features_of, not_supported, request_of}
use Rattle.psci_abi.specs.declared.registers.Code.{Code}
use Rattle.psci_abi.specs.declared.request.Request.{Request}
use Rattle.psci_abi.specs.declared.request.Request.TheVariants as requests
use Rattle.psci_board.specs.Board.{BoardValue, cores}
use Rattle.psci_messages.specs.declared.kind.Kind.TheVariants as kinds
use Rattle.psci_messages.specs.declared.start.Cause.{Cause}
use Rattle.psci_messages.specs.declared.start.Cause.TheVariants.{Boot, On, Reset, Wake}
use Rattle.psci_messages.specs.declared.start.Start.{Start}
use Rattle.psci_fw_spec.specs.PowerCalls.{affinity_info, cpu_off, cpu_on, cpu_suspend}
use Rattle.psci_fw_spec.specs.PowerCalls.{off_message, returns, set_suspend_mode, stops}
use Rattle.psci_fw_spec.specs.PowerCalls.{stops_with, system_message, system_reset2}
use Rattle.psci_fw_spec.specs.PowerCalls.{system_suspend}
use Rattle.psci_fw_spec.specs.Changes.{in_life, with_arrival}
use Rattle.psci_fw_spec.specs.NodeHwState.{node_hw_state}
use Rattle.psci_fw_spec.specs.Phases.{is_resumable, is_running}
use Rattle.psci_fw_spec.specs.Values.{taken_by, Values}
use Rattle.psci_fw_spec.specs.declared.call.FwCall.{FwCall}
use Rattle.psci_fw_spec.specs.declared.call.FwCall.TheVariants.{Enter, Smc, Take}
use Rattle.psci_fw_spec.specs.declared.fault.FwFault.{FwFault}
use Rattle.psci_fw_spec.specs.declared.fault.FwFault.TheVariants.{NoCore, NoLife, NotRunning}
use Rattle.psci_fw_spec.specs.declared.fault.FwFault.TheVariants.{OldStart}
use Rattle.psci_fw_spec.specs.declared.opening.Opening.{Opening}
use Rattle.psci_fw_spec.specs.declared.outcome.Act.TheVariants as acts
use Rattle.psci_fw_spec.specs.declared.outcome.Outcome.{Outcome}
use Rattle.psci_fw_spec.specs.declared.reply.FwReply.{FwReply}
use Rattle.psci_fw_spec.specs.declared.reply.FwReply.TheVariants.{Fault, Out, Taken}

-- What a core is answered that calls a function, and why it may not call --------------------------

-- PSCI 1.1: the major version in bits 31:16, the minor one in bits 15:0 (DEN0022D, PSCI_VERSION)
abbrev pub version : Code
version = record { 0 = pos 0x10001 }

-- the Trusted OS needs no migration, or there is none (DEN0022D, MIGRATE_INFO_TYPE)
abbrev pub no_migration : Code
no_migration = record { 0 = pos 2 }

-- why a core may not call: it is not there, no core has entered yet, or it is not running
abbrev pub call_fault : BoardValue → Values → ℕ → Option FwFault
call_fault b v caller =
    if not (nat_lt caller (cores b)) then Some NoCore
    else (if v.life == 0 then Some NoLife
    else (if is_running (v.phase caller) then None else Some NotRunning))

-- what a function answers its caller
abbrev pub function_outcome : BoardValue → Values → ℕ → Request → Outcome
function_outcome b v caller requests.Version = returns version
function_outcome b v caller (requests.CpuSuspend state entry_point context) =
    cpu_suspend b v caller state entry_point
function_outcome b v caller requests.CpuOff = cpu_off b v caller
function_outcome b v caller (requests.CpuOn target entry_point context) =
    cpu_on b v target entry_point
function_outcome b v caller (requests.AffinityInfo level target) =
    returns (affinity_info b v target level)
function_outcome b v caller requests.MigrateInfoType = returns no_migration
function_outcome b v caller requests.SystemOff = system_message v kinds.Off caller
function_outcome b v caller requests.SystemReset = system_message v kinds.Reset caller
function_outcome b v caller (requests.Features word) =
    returns (record { 0 = features_of b.format word })
function_outcome b v caller (requests.NodeHwState level target) =
    returns (node_hw_state b v target level)
function_outcome b v caller (requests.SystemSuspend entry_point context) =
    system_suspend b v caller entry_point
function_outcome b v caller (requests.SetSuspendMode mode) =
    returns (set_suspend_mode b v caller mode)
function_outcome b v caller (requests.SystemReset2 reset_type cookie) =
    system_reset2 v caller reset_type
function_outcome b v caller requests.Unknown = returns not_supported

-- what a running core is answered to its request: in a halting life it stops, whatever it asks
unfoldable pub outcome_of : BoardValue → Values → ℕ → Request → Outcome
outcome_of b v caller request =
    if v.halting then stops else function_outcome b v caller request

-- What a core is answered that enters, and why it may not enter -----------------------------------

-- a start that is over or cannot be: it is of an earlier life, its number is 0 or above the start
-- limit, or it is no later than the known start of the core
abbrev pub is_old : BoardValue → Values → ℕ → Start → Bool
is_old b v c s =
    nat_lt s.life v.life || (s.number == 0 || (nat_lt b.starts s.number
    || (s.life == v.life && nat_le s.number (v.known c))))

-- why a core may not enter: no such core, no such life, or a start that is over or cannot be
abbrev pub enter_fault : BoardValue → Values → ℕ → Start → Option FwFault
enter_fault b v c s =
    if not (nat_lt c (cores b)) then Some NoCore
    else (if s.life == 0 || nat_lt b.lives s.life then Some NoLife
    else (if is_old b v c s then Some OldStart else None))

-- whether a core was started by a wake-up event
abbrev pub is_wake : Cause → Bool
is_wake Boot = false
is_wake On = false
is_wake Wake = true
is_wake Reset = false

-- A suspended core resumes where it stopped in standby or retention and was woken by the very next
-- start: after another one it has lost its registers.
abbrev pub resumes : Values → ℕ → Start → Bool
resumes v c s = is_resumable (v.phase c) && (is_wake s.cause && s.number == v.known c + 1)

-- what a core does that has entered and is asked for nowhere: it goes on after its suspend, or it
-- parks
abbrev pub without_opening : BoardValue → Values → Values → ℕ → Start → Outcome
without_opening b found arrived c s =
    if resumes found c s
    then record { act = acts.Resume; message = None }
    else stops_with (off_message b arrived c)

-- a core with an opening goes on there
abbrev pub outcome_at : BoardValue → Values → Values → ℕ → Start → Option Opening → Outcome
outcome_at b found arrived c s (Some o) =
    record { act = acts.Enter o.address o.context; message = None }
outcome_at b found arrived c s None = without_opening b found arrived c s

-- What a core is answered that may enter, by what it finds in the life of its start, and what its
-- arrival leaves: in a halting life it stops, else it goes on at its opening, resumes, or parks.
unfoldable pub enter_outcome : BoardValue → Values → ℕ → Start → Outcome
enter_outcome b v c s =
    let found = in_life b s.life v in
    if found.halting then stops
    else outcome_at b found (with_arrival b c s v) c s (found.opening c)

-- Answer ------------------------------------------------------------------------------------------

-- a refusal where there is a fault, else the outcome
abbrev pub reply_or : Option FwFault → Outcome → FwReply
reply_or (Some fault) outcome = Fault fault
reply_or None outcome = Out outcome

-- the one reply to a call; an acknowledgement is taken whatever the core
unfoldable pub answer : BoardValue → Values → ℕ → FwCall → FwReply
answer b v c (Smc regs) = reply_or (call_fault b v c) (outcome_of b v c (request_of regs))
answer b v c (Enter s) = reply_or (enter_fault b v c s) (enter_outcome b v c s)
answer b v c (Take a) = Taken (taken_by v a)

-- a reply, as the functions return it
abbrev pub reply_of : Result Outcome FwFault → FwReply
reply_of (Ok outcome) = Out outcome
reply_of (Err fault) = Fault fault
