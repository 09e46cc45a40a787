-- What a call with its reply comes down to.
use Rattle.std.specs.Ordering.{int_eq}
use Rattle.std.specs.Prelude.{◌++◌, ◌∷◌, [], Bool, Err, if◌then◌else◌, List, None, Ok, Option}
use Rattle.std.specs.Prelude.{option_map, Result, Some, ℕ}
use Rattle.psci_abi.specs.Calls.{request_of, success}
use Rattle.psci_abi.specs.declared.registers.Code.{Code}
use Rattle.psci_abi.specs.declared.request.Request.{Request}
use Rattle.psci_abi.specs.declared.request.Request.TheVariants as requests
use Rattle.psci_board.specs.Board.{BoardValue, height}
use Rattle.psci_state.specs.PowerState.{deepest_of, is_deep}
use Rattle.psci_state.specs.declared.fault.BadState.{BadState}
use Rattle.psci_messages.specs.Message.{AckValue, MessageValue}
use Rattle.psci_messages.specs.Slots.{Acknowledge, Change, Clear, ClearAll, Put}
use Rattle.psci_messages.specs.declared.start.Start.{Start}
use Rattle.psci_messages.specs.declared.taken.Taken.TheVariants.{Used}
use Rattle.psci_fw_spec.specs.Changes.{PowerOn, Rest, with_acknowledgement, with_arrival}
use Rattle.psci_fw_spec.specs.Changes.{with_claims, with_halt, with_mode, with_pending}
use Rattle.psci_fw_spec.specs.Changes.{with_phase, with_rest, with_running}
use Rattle.psci_fw_spec.specs.PowerCalls.{ask_named, mode_of}
use Rattle.psci_fw_spec.specs.Phases.{Away, Phase, Running, Suspended}
use Rattle.psci_fw_spec.specs.Values.{Values}
use Rattle.psci_fw_spec.specs.declared.call.FwCall.{FwCall}
use Rattle.psci_fw_spec.specs.declared.call.FwCall.TheVariants.{Enter, Smc, Take}
use Rattle.psci_fw_spec.specs.declared.mode.SuspendMode.{SuspendMode}
use Rattle.psci_fw_spec.specs.declared.opening.Opening.{Opening}
use Rattle.psci_fw_spec.specs.declared.outcome.Act.{Act}
use Rattle.psci_fw_spec.specs.declared.outcome.Act.TheVariants as acts
use Rattle.psci_fw_spec.specs.declared.reply.FwReply.{FwReply}
use Rattle.psci_fw_spec.specs.declared.reply.FwReply.TheVariants.{Out, Taken}

-- Every reply to every call comes down to one of these.
pub data Effect : Type 0 where
  -- the call was refused, or the acknowledgement was old
  Nothing : Effect
  -- a function was answered, and its caller goes on
  GoesOn : (core : ℕ) → Effect
  -- a PSCI_SET_SUSPEND_MODE was accepted, and its caller goes on
  SetsMode : (core : ℕ) (mode : SuspendMode) → Effect
  -- a CPU_ON was accepted, and its caller goes on
  AsksOn : (core : ℕ) (asked : PowerOn) → Effect
  -- a function stopped its caller, with this Down
  Rests : (core : ℕ) (rest : Rest) (message : MessageValue) → Effect
  -- a SYSTEM_OFF, SYSTEM_RESET or SYSTEM_RESET2 stopped its caller, with this message
  Halts : (core : ℕ) (message : MessageValue) → Effect
  -- a function stopped its caller, and nothing was sent: the life is halting
  Stops : (core : ℕ) → Effect
  -- a core entered, and goes on
  Enters : (core : ℕ) (start : Start) → Effect
  -- a core entered, and stopped with this Down
  Parks : (core : ℕ) (start : Start) (message : MessageValue) → Effect
  -- a core entered and stopped, and nothing was sent: the life is halting
  StopsAtOnce : (core : ℕ) (start : Start) → Effect
  -- an acknowledgement of an outstanding message was taken
  Acknowledges : (ack : AckValue) → Effect

-- Functions -----------------------------------------------------------------------------------

-- a core that was suspended with this ask; where it powers down it goes on at this opening
abbrev pub suspends : Opening → List ℕ → Rest
suspends opening ask = record {
  phase = Suspended ask;
  opening = if is_deep ask then Some opening else None;
}

-- a core that goes off
abbrev pub going_off : Rest
going_off = record { phase = Away; opening = None }

-- the rest of a core that asked for a power state; a word that is none stops no core
abbrev pub rest_named : Opening → Result (List ℕ) BadState → Rest
rest_named opening (Ok ask) = suspends opening ask
rest_named opening (Err bad) = going_off

-- how a function leaves a caller that it stops: suspended, or going off
abbrev pub rest_of : BoardValue → Request → Rest
rest_of b (requests.CpuSuspend state entry_point context) =
    rest_named (record { address = entry_point; context = context }) (ask_named b state)
rest_of b (requests.SystemSuspend entry_point context) =
    suspends (record { address = entry_point; context = context }) (deepest_of (height b))
rest_of b request = going_off

-- a function stopped its caller and sent this
abbrev pub stop_effect : BoardValue → ℕ → Request → MessageValue → Effect
stop_effect b c requests.SystemOff m = Halts c m
stop_effect b c requests.SystemReset m = Halts c m
stop_effect b c (requests.SystemReset2 reset_type cookie) m = Halts c m
stop_effect b c request m = Rests c (rest_of b request) m

-- the mode of a number was set; a number that is none sets no mode
abbrev pub mode_effect : ℕ → Option SuspendMode → Effect
mode_effect c None = GoesOn c
mode_effect c (Some mode) = SetsMode c mode

-- a function returned this code to its caller and sent nothing
abbrev pub return_effect : ℕ → Request → Code → Effect
return_effect c (requests.SetSuspendMode number) code =
    if int_eq code.0 success.0 then mode_effect c (mode_of number) else GoesOn c
return_effect c request code = GoesOn c

-- a function returned and sent this
abbrev pub sent_effect : ℕ → Request → MessageValue → Effect
sent_effect c (requests.CpuOn target entry_point context) m = AsksOn c (record {
  message = m;
  opening = record { address = entry_point; context = context };
})
sent_effect c request m = GoesOn c

-- what a function comes down to, by how it ended
abbrev pub function_effect : BoardValue → ℕ → Request → Act → Option MessageValue → Effect
function_effect b c request acts.Stop (Some m) = stop_effect b c request m
function_effect b c request acts.Stop None = Stops c
function_effect b c request (acts.Return code) (Some m) = sent_effect c request m
function_effect b c request (acts.Return code) None = return_effect c request code
function_effect b c request act message = GoesOn c

-- All calls -----------------------------------------------------------------------------------

-- what a core that entered comes down to
abbrev pub enter_effect : ℕ → Start → Act → Option MessageValue → Effect
enter_effect c s acts.Stop (Some m) = Parks c s m
enter_effect c s acts.Stop None = StopsAtOnce c s
enter_effect c s act message = Enters c s

-- what a call with this reply comes down to
abbrev pub effect_of : BoardValue → ℕ → FwCall → FwReply → Effect
effect_of b c (Smc regs) (Out o) = function_effect b c (request_of regs) o.act o.message
effect_of b c (Enter s) (Out o) = enter_effect c s o.act o.message
effect_of b c (Take a) (Taken Used) = Acknowledges a
effect_of b c call reply = Nothing

-- What is kept after a call, by what was kept before it, the call and its reply -------------------

-- what an effect leaves of the values
abbrev pub change : BoardValue → Effect → Values → Values
change b Nothing v = v
change b (GoesOn c) v = with_phase c Running v
change b (SetsMode c mode) v = with_phase c Running (with_mode mode v)
change b (AsksOn c asked) v = with_phase c Running (with_pending b asked v)
change b (Rests c rest m) v = with_claims b m (with_rest c rest v)
change b (Halts c m) v = with_halt m (with_phase c Away v)
change b (Stops c) v = with_phase c Away v
change b (Enters c s) v = with_running c (with_arrival b c s v)
change b (Parks c s m) v = with_claims b m (with_phase c Away (with_arrival b c s v))
change b (StopsAtOnce c s) v = with_phase c Away (with_arrival b c s v)
change b (Acknowledges a) v = with_acknowledgement b a v

-- what is kept after a call with this reply
unfoldable pub after : BoardValue → ℕ → FwCall → FwReply → Values → Values
after b c call reply v = change b (effect_of b c call reply) v

-- One call with its reply -------------------------------------------------------------------------

-- a call of a core, with its reply
pub record FwExchange : Type 0 where
  -- the number of the core; of an acknowledgement it is never read
  pub core : ℕ
  -- what was asked of the firmware
  pub call : FwCall
  -- what was answered
  pub reply : FwReply

-- what an exchange comes down to
abbrev pub effect : BoardValue → FwExchange → Effect
effect b e = effect_of b e.core e.call e.reply

-- What an effect says happened --------------------------------------------------------------------

-- A core that entered, and by which start.
pub record Arrival : Type 0 where
  pub core : ℕ
  pub start : Start

-- the core that entered, if one did
abbrev pub arrived : Effect → Option Arrival
arrived (Enters c s) = Some (record { core = c; start = s })
arrived (Parks c s m) = Some (record { core = c; start = s })
arrived (StopsAtOnce c s) = Some (record { core = c; start = s })
arrived e = None

-- the core that entered and goes on, if one did
abbrev pub ran : Effect → Option ℕ
ran (Enters c s) = Some c
ran e = None

-- the CPU_ON that was accepted, if it was one
abbrev pub asked_on : Effect → Option PowerOn
asked_on (AsksOn c asked) = Some asked
asked_on e = None

-- the message that was sent, if one was
abbrev pub sent : Effect → Option MessageValue
sent (AsksOn c asked) = Some asked.message
sent (Rests c rest m) = Some m
sent (Halts c m) = Some m
sent (Parks c s m) = Some m
sent e = None

-- the Down of a core that stopped, if one was sent
abbrev pub claims_sent : Effect → Option MessageValue
claims_sent (Rests c rest m) = Some m
claims_sent (Parks c s m) = Some m
claims_sent e = None

-- A core, and what its outcome left it doing.
pub record Left : Type 0 where
  pub core : ℕ
  pub phase : Phase

-- what an outcome left its core doing: a core that enters and stops goes off
abbrev pub left : Effect → Option Left
left Nothing = None
left (GoesOn c) = Some (record { core = c; phase = Running })
left (SetsMode c mode) = Some (record { core = c; phase = Running })
left (AsksOn c asked) = Some (record { core = c; phase = Running })
left (Rests c rest m) = Some (record { core = c; phase = rest.phase })
left (Halts c m) = Some (record { core = c; phase = Away })
left (Stops c) = Some (record { core = c; phase = Away })
left (Enters c s) = Some (record { core = c; phase = Running })
left (Parks c s m) = Some (record { core = c; phase = Away })
left (StopsAtOnce c s) = Some (record { core = c; phase = Away })
left (Acknowledges a) = None

-- Slots ---------------------------------------------------------------------------------------

-- an item of a list, or none
abbrev pub listed : {A : Type 0} → Option A → List A
listed None = []
listed (Some x) = x ∷ []

-- a core that entered has no message outstanding, and none has where its life began with it
abbrev pub arrival_changes : Bool → Option Arrival → List Change
arrival_changes begins None = []
arrival_changes begins (Some a) =
    Clear (record { number = a.core }) ∷ (if begins then ClearAll ∷ [] else [])

-- the acknowledgement that was used, if one was
abbrev pub used : Effect → List Change
used (Acknowledges a) = Acknowledge a ∷ []
used e = []

-- what an effect does to outstanding messages, the last first
abbrev pub slot_changes : Bool → Effect → List Change
slot_changes begins e =
    listed (option_map (λ m. Put m) (sent e)) ++ (arrival_changes begins (arrived e) ++ used e)

-- What has been sent, and what was claimed with it ------------------------------------------------

-- all messages of a history, over all lives, the last first
unfoldable pub sent_messages : BoardValue → List FwExchange → List MessageValue
sent_messages b [] = []
sent_messages b (e ∷ h) = listed (sent (effect b e)) ++ sent_messages b h
