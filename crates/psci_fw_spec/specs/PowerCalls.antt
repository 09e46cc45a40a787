-- What each function of the standard answers, with its checks in their order.
use Rattle.std.specs.List.{list_all, list_any, range_with_len}
use Rattle.std.specs.Prelude.{◌&&◌, ◌==◌, ◌||◌, [], Bool, Err, false, if◌then◌else◌, List, None}
use Rattle.std.specs.Prelude.{not, Ok, Option, pos, Result, Some, true, ℕ}
use Rattle.psci_abi.specs.Calls.{already_on, denied, internal_failure, invalid_address}
use Rattle.psci_abi.specs.Calls.{invalid_parameters, on_pending, success}
use Rattle.psci_abi.specs.declared.registers.Code.{Code}
use Rattle.psci_board.specs.Board.{below, BoardValue, core_of, cores, has_node, height}
use Rattle.psci_board.specs.Board.{may_enter, node_of}
use Rattle.psci_board.specs.declared.draft.Core.{Core}
use Rattle.psci_board.specs.declared.draft.Node.{Node}
use Rattle.psci_state.specs.PowerState.{ask_of, deepest_of, is_deep}
use Rattle.psci_state.specs.declared.fault.BadState.{BadState}
use Rattle.psci_messages.specs.Claim.{last_core_check, off_claims, platform_claims}
use Rattle.psci_messages.specs.Message.{MessageValue}
use Rattle.psci_messages.specs.View.{PowerView}
use Rattle.psci_messages.specs.declared.kind.Kind.{Kind}
use Rattle.psci_messages.specs.declared.kind.Kind.TheVariants as kinds
use Rattle.psci_messages.specs.declared.kind.Kind.TheVariants.{Down}
use Rattle.psci_messages.specs.declared.osi.Osi.{Osi}
use Rattle.psci_messages.specs.declared.osi.Osi.TheVariants.{Denied, Invalid}
use Rattle.psci_messages.specs.declared.part.Part.{Part}
use Rattle.psci_fw_spec.specs.Changes.{with_phase}
use Rattle.psci_fw_spec.specs.Phases.{Away, is_away, is_suspended_or_pending, Suspended}
use Rattle.psci_fw_spec.specs.Values.{Values}
use Rattle.psci_fw_spec.specs.Invariant.{view}
use Rattle.psci_fw_spec.specs.declared.mode.SuspendMode.{SuspendMode}
use Rattle.psci_fw_spec.specs.declared.mode.SuspendMode.TheVariants.{OsInitiated, Platform}
use Rattle.psci_fw_spec.specs.declared.outcome.Act.{Act}
use Rattle.psci_fw_spec.specs.declared.outcome.Act.TheVariants as acts
use Rattle.psci_fw_spec.specs.declared.outcome.Outcome.{Outcome}
use Rattle.psci_fw_spec.specs.declared.status.Status.{Status}
use Rattle.psci_fw_spec.specs.declared.status.Status.TheVariants as statuses
use Rattle.psci_fw_spec.specs.declared.status.Status.TheVariants.{Off, On, Pending}

-- AFFINITY_INFO: the status of a core or power domain ---------------------------------------------

-- what AFFINITY_INFO answers for a status (DEN0022D, AFFINITY_INFO: ON, OFF, ON_PENDING)
abbrev pub status_code : Status → ℕ
status_code On = 0
status_code Off = 1
status_code Pending = 2

-- whether a status is ON
abbrev pub is_on : Status → Bool
is_on On = true
is_on Off = false
is_on Pending = false

-- whether a status is ON_PENDING
abbrev pub is_pending_status : Status → Bool
is_pending_status On = false
is_pending_status Off = false
is_pending_status Pending = true

-- cores together: ON where one is ON, else ON_PENDING where one is, else OFF
abbrev pub status_over : {A : Type 0} → (A → Status) → List A → Status
status_over status cs =
    if list_any (λ c. is_on (status c)) cs then On
    else (if list_any (λ c. is_pending_status (status c)) cs then Pending else Off)

-- The status of a power domain, by those of the cores: a core has its own, a domain above has that
-- of the cores below it. A node that the board does not have is OFF.
unfoldable pub node_status : BoardValue → (ℕ → Status) → Node → Status
node_status b status n =
    if has_node b n
    then (if n.level == 0 then status n.place else status_over status (below b n))
    else Off

-- what AFFINITY_INFO answers, by the node that its affinity word names
abbrev pub affinity_of : BoardValue → Values → Option Node → Code
affinity_of b v None = invalid_parameters
affinity_of b v (Some n) = record { 0 = pos (status_code (node_status b v.status n)) }

-- AFFINITY_INFO: the status of the core or power domain that the word names at the level
abbrev pub affinity_info : BoardValue → Values → ℕ → ℕ → Code
affinity_info b v target level = affinity_of b v (node_of b target level)

-- What a core claims of its domains when it stops, by the suspend mode ----------------------------

-- the claim of a core that is off or going off in this view of the domains
abbrev pub leaving_claims : BoardValue → PowerView → ℕ → SuspendMode → List Part
leaving_claims b w c Platform = platform_claims b w c
leaving_claims b w c OsInitiated = off_claims b w c

-- the claim of a core that goes off, or parks
unfoldable pub off_parts : BoardValue → Values → ℕ → List Part
off_parts b v c = leaving_claims b (view b (with_phase c Away v)) c v.mode

-- the claim of a core that is suspended with this ask, or why it may not be: in
-- platform-coordinated mode it always may
abbrev pub suspend_claims : BoardValue → Values → ℕ → List ℕ → SuspendMode
    → Result (List Part) Osi
suspend_claims b v c ask Platform =
    Ok (platform_claims b (view b (with_phase c (Suspended ask) v)) c)
suspend_claims b v c ask OsInitiated = last_core_check b (view b v) c ask

-- the same in the mode that was set
unfoldable pub suspend_parts : BoardValue → Values → ℕ → List ℕ → Result (List Part) Osi
suspend_parts b v c ask = suspend_claims b v c ask v.mode

-- How a call ends ---------------------------------------------------------------------------------

-- the caller goes on with this code, and nothing is sent
abbrev pub returns : Code → Outcome
returns code = record { act = acts.Return code; message = None }

-- the core stops, and this is sent
abbrev pub stops_with : MessageValue → Outcome
stops_with m = record { act = acts.Stop; message = Some m }

-- the core stops, and nothing is sent
abbrev pub stops : Outcome
stops = record { act = acts.Stop; message = None }

-- whether a core executes on after its call
abbrev pub executes_on : Act → Bool
executes_on (acts.Return code) = true
executes_on acts.Stop = false
executes_on (acts.Enter address context) = true
executes_on acts.Resume = true

-- a message of this kind for a core, with the core's known start
abbrev pub message_for : Values → Kind → ℕ → List Part → MessageValue
message_for v kind c parts = record {
  kind = kind;
  core = record { number = c };
  life = v.life;
  number = v.known c;
  parts = parts;
}

-- CPU_OFF: a core goes off ------------------------------------------------------------------------

-- the Down of a core that goes off
abbrev pub off_message : BoardValue → Values → ℕ → MessageValue
off_message b v c = message_for v Down c (off_parts b v c)

-- CPU_OFF (DEN0022D): the caller stops
abbrev pub cpu_off : BoardValue → Values → ℕ → Outcome
cpu_off b v c = stops_with (off_message b v c)

-- CPU_ON: which core it starts, and what it is answered -------------------------------------------

-- a core that is off may be started, unless its known start is the start limit
abbrev pub off_target : BoardValue → Values → Core → Status → Result Core Code
off_target b v target On = Err already_on
off_target b v target Pending = Err on_pending
off_target b v target Off =
    if v.known target.number == b.starts then Err internal_failure else Ok target

-- the core that a CPU_ON starts, by the core that its affinity word names
abbrev pub target_among : BoardValue → Values → ℕ → Option Core → Result Core Code
target_among b v entry_point None = Err invalid_parameters
target_among b v entry_point (Some target) =
    if may_enter b entry_point
    then off_target b v target (v.status target.number)
    else Err invalid_address

-- The core that a CPU_ON starts, or why it starts none: the target is looked at first, then the
-- entry point, then what the target does, and last its known start.
unfoldable pub target_of : BoardValue → Values → ℕ → ℕ → Result Core Code
target_of b v target entry_point = target_among b v entry_point (core_of b target)

-- what CPU_ON answers, by the core that it starts or the reason why it starts none
abbrev pub start_outcome : Values → Result Core Code → Outcome
start_outcome v (Err code) = returns code
start_outcome v (Ok target) = record {
  act = acts.Return success;
  message = Some (message_for v kinds.Start target.number []);
}

-- CPU_ON (DEN0022D): SUCCESS and a Start message, or an error code
abbrev pub cpu_on : BoardValue → Values → ℕ → ℕ → Outcome
cpu_on b v target entry_point = start_outcome v (target_of b v target entry_point)

-- CPU_SUSPEND: a core stops until it is woken -----------------------------------------------------

-- the ask of a power state word on this board, in the board's format
abbrev pub ask_named : BoardValue → ℕ → Result (List ℕ) BadState
ask_named b word = ask_of b.format (height b) word

-- what the last-core check answers
abbrev pub osi_code : Osi → Code
osi_code Invalid = invalid_parameters
osi_code Denied = denied

-- a core stops with its claim, or is answered why not
abbrev pub suspend_answer : Values → ℕ → Result (List Part) Osi → Outcome
suspend_answer v c (Err reason) = returns (osi_code reason)
suspend_answer v c (Ok parts) = stops_with (message_for v Down c parts)

-- A core asks for this: an entry point is looked at only where the core powers down. At the start
-- limit it could never be woken: it goes on at once.
abbrev pub suspend_asked : BoardValue → Values → ℕ → ℕ → Result (List ℕ) BadState → Outcome
suspend_asked b v c entry_point (Err bad) = returns invalid_parameters
suspend_asked b v c entry_point (Ok ask) =
    if is_deep ask && not (may_enter b entry_point) then returns invalid_address
    else (if v.known c == b.starts then returns success
    else suspend_answer v c (suspend_parts b v c ask))

-- CPU_SUSPEND (DEN0022D): the power state is looked at first, then the entry point, then the core's
-- known start, and last, in OS-initiated mode, the other cores
abbrev pub cpu_suspend : BoardValue → Values → ℕ → ℕ → ℕ → Outcome
cpu_suspend b v c state entry_point = suspend_asked b v c entry_point (ask_named b state)

-- Functions for the whole system: SYSTEM_SUSPEND, SYSTEM_OFF, SYSTEM_RESET, SYSTEM_RESET2 ---------

-- whether a status is OFF
abbrev pub is_off_status : Status → Bool
is_off_status statuses.On = false
is_off_status statuses.Off = true
is_off_status statuses.Pending = false

-- whether each core of the board but this one passes a test
abbrev pub all_others : BoardValue → ℕ → (ℕ → Bool) → Bool
all_others b c test = list_all (λ k. k == c || test k) (range_with_len 0 (cores b))

-- SYSTEM_SUSPEND (DEN0022D): the entry point is looked at first, then the statuses of the other
-- cores, then the caller's known start; else the caller is suspended with power-down of all levels
abbrev pub system_suspend : BoardValue → Values → ℕ → ℕ → Outcome
system_suspend b v c entry_point =
    if not (may_enter b entry_point) then returns invalid_address
    else (if not (all_others b c (λ k. is_off_status (v.status k))) then returns denied
    else (if v.known c == b.starts then returns denied
    else suspend_answer v c (suspend_parts b v c (deepest_of (height b)))))

-- SYSTEM_OFF and SYSTEM_RESET (DEN0022D): the caller stops, with the message of this kind
abbrev pub system_message : Values → Kind → ℕ → Outcome
system_message v kind c = stops_with (message_for v kind c [])

-- SYSTEM_RESET2 (DEN0022D): type 0 is the same as SYSTEM_RESET, and there is no other type
abbrev pub system_reset2 : Values → ℕ → ℕ → Outcome
system_reset2 v c reset_type =
    if reset_type == 0 then system_message v kinds.Reset c else returns invalid_parameters

-- PSCI_SET_SUSPEND_MODE ---------------------------------------------------------------------------

-- the mode of a number (DEN0022D, PSCI_SET_SUSPEND_MODE, parameter mode)
abbrev pub mode_of : ℕ → Option SuspendMode
mode_of number =
    if number == 0 then Some Platform
    else (if number == 1 then Some OsInitiated else None)

-- both are the same mode
abbrev pub is_mode : SuspendMode → SuspendMode → Bool
is_mode Platform Platform = true
is_mode OsInitiated OsInitiated = true
is_mode m n = false

-- whether a caller may set this mode: OS-initiated mode while no core is suspended or pending,
-- platform-coordinated mode while every other core is off or going off
abbrev pub may_set : BoardValue → Values → ℕ → SuspendMode → Bool
may_set b v c Platform = all_others b c (λ k. is_away (v.phase k))
may_set b v c OsInitiated =
    not (list_any (λ k. is_suspended_or_pending (v.phase k)) (range_with_len 0 (cores b)))

-- what it answers, by the mode of its number
abbrev pub mode_asked : BoardValue → Values → ℕ → Option SuspendMode → Code
mode_asked b v c None = invalid_parameters
mode_asked b v c (Some mode) =
    if is_mode mode v.mode then success
    else (if may_set b v c mode then success else denied)

-- PSCI_SET_SUSPEND_MODE (DEN0022D): the number is looked at first, then the mode that is set, then
-- the cores
abbrev pub set_suspend_mode : BoardValue → Values → ℕ → ℕ → Code
set_suspend_mode b v c number = mode_asked b v c (mode_of number)
