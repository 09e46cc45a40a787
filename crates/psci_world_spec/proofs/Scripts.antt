-- Worked examples are stated so: events in turn, and what is said of each.
use Rattle.std.proofs.Common.{◌++◌, ◌∙◌, ◌∷◌, ◌≡◌, [], ap, Bool, List, map, negsuc, None, Option}
use Rattle.std.proofs.Common.{pos, refl, reverse, Some, suc, sym, zero, ℕ, ℤ}
use Rattle.std.proofs.lemmas.List.{append-nil, append_assoc, reverse-append, reverse-reverse}
use Rattle.psci_ctl_spec.specs.Replies.{delivery_of, effect_of, reply, reset_of, wake_of}
use Rattle.psci_ctl_spec.specs.History as controls
use Rattle.psci_ctl_spec.specs.Values.{applied, is_stale, starts_below}
use Rattle.psci_fw_spec.specs.PowerCalls.{node_status, off_parts, suspend_parts, target_of}
use Rattle.psci_fw_spec.specs.Answer.{answer, enter_outcome, outcome_of}
use Rattle.psci_fw_spec.specs.History as remembers
use Rattle.psci_fw_spec.specs.Invariant.{view}
use Rattle.psci_fw_spec.specs.declared.outcome.Act.TheVariants as acts
use Rattle.psci_fw_spec.specs.psci_abi.declared.registers.Format.TheVariants.{Original}
use Rattle.psci_fw_spec.specs.psci_board.Board.{BoardValue, core_of, node_of, up}
use Rattle.psci_fw_spec.specs.psci_messages.Claim.{claims_of, last_core_check, refusal, shallow}
use Rattle.psci_fw_spec.specs.psci_messages.Claim.{shallow_at}
use Rattle.psci_fw_spec.specs.psci_messages.Outstanding.{changes_since, last_message}
use Rattle.psci_fw_spec.specs.psci_messages.Outstanding.{outstanding}
use Rattle.psci_fw_spec.specs.psci_messages.View.{generation, is_all_away, is_idle, least_ask}
use Rattle.psci_fw_spec.specs.psci_messages.declared.kind.Kind.{Kind}
use Rattle.psci_fw_spec.specs.psci_messages.declared.kind.Kind.TheVariants as kinds
use Rattle.psci_fw_spec.specs.psci_messages.declared.part.Part.{Part}
use Rattle.psci_fw_spec.specs.psci_messages.declared.start.Cause.{Cause}
use Rattle.psci_fw_spec.specs.psci_messages.declared.taken.Taken.TheVariants as takens
use Rattle.psci_world_spec.specs.Legal.{acks, controller_history, firmware_history, IsLegalPast}
use Rattle.psci_world_spec.specs.Legal.{legal, legal_record, place, run_from, sent}
use Rattle.psci_world_spec.specs.declared.event.Event.{Event}
use Rattle.psci_world_spec.specs.declared.event.Event.TheVariants.{Call}
use Rattle.psci_world_spec.specs.declared.said.Record.{Record}
use Rattle.psci_world_spec.specs.declared.said.Said.{Said}
use Rattle.psci_world_spec.specs.declared.said.Said.TheVariants.{Acked, Fw, Kick, Taken}
use Rattle.psci_world_spec.specs.declared.said.Sent.{Sent}

-- To each list of events there is one legal run ---------------------------------------------------

-- the events of a past, newest first
abbrev pub events_of : List Record → List Event
events_of past = map (λ (r : Record). r.event) past

-- Runs -----------------------------------------------------------------------------------------

pub stays_legal : (b : BoardValue) (past : List Record) (events : List Event) → IsLegalPast b past
    → IsLegalPast b (run_from b past events)
unfolding run_from
stays_legal b past [] is = is
stays_legal b past (event ∷ events) is =
    stays_legal b (legal_record b past event ∷ past) events (refl, is)

pub goes_on : (b : BoardValue) (past : List Record) (events more : List Event)
    → run_from b past (events ++ more) ≡ run_from b (run_from b past events) more
unfolding run_from
goes_on b past [] more = refl
goes_on b past (event ∷ events) more = goes_on b (legal_record b past event ∷ past) events more

-- the first event comes last
last_event : (event : Event) (events : List Event) (before : List Event)
    → reverse (event ∷ events) ++ before ≡ reverse events ++ (event ∷ before)
last_event event events before =
    ap (λ (l : List Event). l ++ before) (reverse-append (event ∷ []) events)
    ∙ append_assoc (reverse events) (event ∷ []) before

has_events : (b : BoardValue) (past : List Record) (events : List Event)
    → events_of (run_from b past events) ≡ reverse events ++ events_of past
unfolding run_from
has_events b past [] = refl
has_events b past (event ∷ events) =
    has_events b (legal_record b past event ∷ past) events
    ∙ sym (last_event event events (events_of past))

pub run_events : (b : BoardValue) (events : List Event)
    → events_of (run_from b [] events) ≡ reverse events
run_events b events = has_events b [] events ∙ append-nil (reverse events)

-- Only one -------------------------------------------------------------------------------------

-- the legal past of these events, both with the newest first
past_of : BoardValue → List Event → List Record
past_of b [] = []
past_of b (event ∷ events) = legal_record b (past_of b events) event ∷ past_of b events

one_past : (b : BoardValue) (past : List Record) → IsLegalPast b past
    → past ≡ past_of b (events_of past)
unfolding past_of
one_past b [] is = refl
one_past b (r ∷ past) is =
    ap (λ (s : Said). record { event = r.event; said = s } ∷ past) is.0
    ∙ ap (λ (p : List Record). legal_record b p r.event ∷ p) (one_past b past is.1)

pub only_one : (b : BoardValue) (one other : List Record) → IsLegalPast b one → IsLegalPast b other
    → events_of one ≡ events_of other → one ≡ other
only_one b one other is also same =
    one_past b one is ∙ ap (past_of b) same ∙ sym (one_past b other also)

pub is_run : (b : BoardValue) (past : List Record) → IsLegalPast b past
    → past ≡ run_from b [] (reverse (events_of past))
is_run b past is =
    let events = reverse (events_of past) in
    only_one b past (run_from b [] events) is (stays_legal b [] events tt)
    (sym (run_events b events ∙ reverse-reverse (events_of past)))

-- Scripts -----------------------------------------------------------------------------------------

-- what an example unfolds to compute what is said of events that are written out
unfoldable pub computing : Unit {0}
unfolding run_from legal place sent acks controller_history firmware_history remembers.values_of
    controls.values_of answer outcome_of enter_outcome target_of core_of node_of node_status
    off_parts suspend_parts view up claims_of least_ask generation is_all_away is_idle
    last_core_check refusal shallow shallow_at outstanding last_message changes_since effect_of
    reply delivery_of wake_of reset_of applied is_stale starts_below
computing = tt

-- two clusters of two cores
abbrev pub board : BoardValue
board = record {
  levels = (2 ∷ 2 ∷ []) ∷ (2 ∷ []) ∷ [];
  ranges = record { start = 0x40000000; end = 0x40100000 } ∷ [];
  boot = 0x40000000;
  starts = 1000;
  lives = 3;
  format = Original;
}

-- the same with other limits: of starts, of lives
abbrev pub limited : ℕ → ℕ → BoardValue
limited starts lives = record board { starts = starts; lives = lives }

-- one core
abbrev pub one_core : BoardValue
one_core = record board { levels = (1 ∷ []) ∷ [] }

-- two groups of two clusters of one core
abbrev pub tall : BoardValue
tall = record board { levels = (1 ∷ 1 ∷ 1 ∷ 1 ∷ []) ∷ (2 ∷ 2 ∷ []) ∷ (2 ∷ []) ∷ [] }

-- a core calls with these registers
abbrev pub call : ℕ → ℕ → ℕ → ℕ → ℕ → Event
call c x0 x1 x2 x3 = Call c (record { x0 = x0; x1 = x1; x2 = x2; x3 = x3 })

-- PSCI_VERSION by a core
abbrev pub version : ℕ → Event
version c = call c 0x84000000 0 0 0

-- the boot core asks core 3 on
abbrev pub on_3 : Event
on_3 = call 0 0xc4000003 0x101 0x40001000 7

-- the boot core asks for the status of core 3
abbrev pub status_3 : Event
status_3 = call 0 0xc4000004 0x101 0 0

-- a core asks for retention of itself alone
abbrev pub retention : ℕ → Event
retention c = call c 0xc4000001 0x2 0 0

-- CPU_OFF, SYSTEM_OFF and SYSTEM_RESET by a core
abbrev pub off : ℕ → Event
off c = call c 0x84000002 0 0 0

abbrev pub system_off : ℕ → Event
system_off c = call c 0x84000008 0 0 0

abbrev pub system_reset : ℕ → Event
system_reset c = call c 0x84000009 0 0 0

-- a part: level, depth, generation
abbrev pub part : ℕ → ℕ → ℕ → Part
part level depth generation = record { level = level; depth = depth; generation = generation }

-- no message
abbrev pub nothing : Option Sent
nothing = None

-- a message: its number, kind, core, life, number of its start, parts
abbrev pub sends : ℕ → Kind → ℕ → ℕ → ℕ → List Part → Option Sent
sends index kind c life number parts = Some (record {
  index = index;
  message = record {
    kind = kind;
    core = record { number = c };
    life = life;
    number = number;
    parts = parts;
  };
})

-- outcomes
abbrev pub returns : ℤ → Option Sent → Said
returns code sent = Fw (acts.Return (record { 0 = code })) sent

-- a core is answered this code of 0 or more; one below 0 by its absolute value
abbrev pub value : ℕ → Said
value n = returns (pos n) nothing

abbrev pub error : ℕ → Said
error zero = value 0
error (suc n) = returns (negsuc n) nothing

-- a core asks another one on: the number of the Start, its core, life, number
abbrev pub asks_on : ℕ → ℕ → ℕ → ℕ → Said
asks_on index c life number = returns (pos 0) (sends index kinds.Start c life number [])

abbrev pub stops : Option Sent → Said
stops sent = Fw acts.Stop sent

-- a core stops with a Down: its number, core, life, number, parts
abbrev pub goes_down : ℕ → ℕ → ℕ → ℕ → List Part → Said
goes_down index c life number parts = stops (sends index kinds.Down c life number parts)

-- a core ends the life: the number of the message, its kind, core, life, number
abbrev pub halts : ℕ → Kind → ℕ → ℕ → ℕ → Said
halts index kind c life number = stops (sends index kind c life number [])

abbrev pub enters : ℕ → ℕ → Said
enters address context = Fw (acts.Enter address context) None

abbrev pub resumes : Said
resumes = Fw acts.Resume None

-- a start: life, number, cause
abbrev pub started : ℕ → ℕ → Cause → Said
started life number cause = Kick (record { life = life; number = number; cause = cause })

-- an acknowledgement: its number, kind, core, life, number, how much was applied, whether stale
abbrev pub acked : ℕ → Kind → ℕ → ℕ → ℕ → ℕ → Bool → Said
acked index kind c life number applied stale = Acked index (record {
  kind = kind;
  core = record { number = c };
  life = life;
  number = number;
  applied = applied;
  stale = stale;
})

abbrev pub used : Said
used = Taken takens.Used

-- of these events this is said, each after the events before it
abbrev pub IsSaid : BoardValue → List Event → List Said → Type 0
IsSaid b events said = reverse (map (λ r. r.said) (run_from b [] events)) ≡ said
