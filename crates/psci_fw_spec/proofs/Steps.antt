-- Worked examples are stated so: the calls of some cores in turn, and beside each its reply.
use Rattle.std.proofs.Common.{pos, negsuc, map, reverse}
use Rattle.psci_fw_spec.proofs.Words.{◌∷◌, ◌≡◌, [], BoardValue, Bool, Enter, false, Fault}
use Rattle.psci_fw_spec.proofs.Words.{FwCall, FwExchange, FwFault, FwReply, Kind, legal_reply}
use Rattle.psci_fw_spec.proofs.Words.{List, MessageValue, None, Out, Part, Smc, Some}
use Rattle.psci_fw_spec.proofs.Words.{start_of_life, suc, Take, Taken, Values, zero, ℕ, ℤ}
use Rattle.psci_abi.specs.declared.registers.Format.TheVariants.{Original}
use Rattle.psci_board.specs.Board.{core_of, node_of, up}
use Rattle.psci_messages.specs.Claim.{claims_of, last_core_check, refusal, shallow, shallow_at}
use Rattle.psci_messages.specs.View.{generation, is_all_away, is_idle, least_ask}
use Rattle.psci_messages.specs.Outstanding.{changes_since, last_message, outstanding}
use Rattle.psci_messages.specs.declared.start.Cause.{Cause}
use Rattle.psci_messages.specs.declared.start.Cause.TheVariants.{Boot, On, Wake, Reset}
use Rattle.psci_fw_spec.specs.PowerCalls.{node_status, off_parts, suspend_parts, target_of}
use Rattle.psci_fw_spec.specs.Effects.{after, sent_messages}
use Rattle.psci_fw_spec.specs.Answer.{answer, enter_outcome, outcome_of}
use Rattle.psci_fw_spec.specs.History.{values_of}
use Rattle.psci_fw_spec.specs.Statuses.{statuses}
use Rattle.psci_fw_spec.specs.Invariant.{view}
pub use Rattle.psci_board.proofs.Tables.{◌⇒◌}
use Rattle.psci_board.proofs.Tables as tables
use Rattle.psci_messages.specs.declared.kind.Kind.TheVariants as kinds
use Rattle.psci_messages.specs.declared.taken.Taken.TheVariants as takens
use Rattle.psci_fw_spec.specs.declared.outcome.Act.TheVariants as acts

-- what an example unfolds to compute answers and values on calls that are written out
unfoldable pub computing : Unit {0}
unfolding answer values_of after outcome_of enter_outcome target_of core_of node_of node_status
    off_parts suspend_parts view up claims_of least_ask generation is_all_away is_idle
    last_core_check refusal shallow shallow_at outstanding last_message changes_since sent_messages
    statuses
computing = tt

-- Boards --------------------------------------------------------------------------------------

-- two clusters of two cores
abbrev pub board : BoardValue
board = record {
  levels = (2 ∷ 2 ∷ []) ∷ (2 ∷ []) ∷ [];
  ranges = record { start = 0x40000000; end = 0x40100000 } ∷ [];
  boot = 0x40000000;
  starts = 1000;
  lives = 3;
  format = Original;
}

-- one core
abbrev pub one_core : BoardValue
one_core = record board { levels = (1 ∷ []) ∷ [] }

-- one cluster of three cores
abbrev pub one_cluster : BoardValue
one_cluster = record board { levels = (3 ∷ []) ∷ [] }

-- a cluster of one core and one of three
abbrev pub uneven : BoardValue
uneven = record board { levels = (1 ∷ 3 ∷ []) ∷ (2 ∷ []) ∷ [] }

-- two groups of two clusters of one core
abbrev pub tall : BoardValue
tall = record board { levels = (1 ∷ 1 ∷ 1 ∷ 1 ∷ []) ∷ (2 ∷ 2 ∷ []) ∷ (2 ∷ []) ∷ [] }

-- Calls ---------------------------------------------------------------------------------------

-- a call of a core
pub record Step : Type 0 where
  pub core : ℕ
  pub call : FwCall

-- a core with these registers
abbrev pub smc : ℕ → ℕ → ℕ → ℕ → ℕ → Step
smc c x0 x1 x2 x3 = record { core = c; call = Smc (record { x0 = x0; x1 = x1; x2 = x2; x3 = x3 }) }

-- PSCI_VERSION by a core
abbrev pub version : ℕ → Step
version c = smc c 0x84000000 0 0 0

-- CPU_ON by a core: affinity word, entry point, context id
abbrev pub on_by : ℕ → ℕ → ℕ → ℕ → Step
on_by c target entry_point context = smc c 0xc4000003 target entry_point context

-- the same by the boot core
abbrev pub on : ℕ → ℕ → ℕ → Step
on target entry_point context = on_by 0 target entry_point context

-- the boot core asks core 3 on
abbrev pub on_3 : Step
on_3 = on 0x101 0x40001000 7

-- AFFINITY_INFO by the boot core: affinity word, level
abbrev pub affinity : ℕ → ℕ → Step
affinity target level = smc 0 0xc4000004 target level 0

-- CPU_SUSPEND by a core: power state word, entry point, context id
abbrev pub suspend : ℕ → ℕ → ℕ → ℕ → Step
suspend c state entry_point context = smc c 0xc4000001 state entry_point context

-- CPU_OFF by a core
abbrev pub off : ℕ → Step
off c = smc c 0x84000002 0 0 0

-- SYSTEM_SUSPEND by a core: entry point, context id
abbrev pub system_suspend : ℕ → ℕ → ℕ → Step
system_suspend c entry_point context = smc c 0xc400000e entry_point context 0

-- SYSTEM_OFF and SYSTEM_RESET by a core
abbrev pub system_off : ℕ → Step
system_off c = smc c 0x84000008 0 0 0

abbrev pub system_reset : ℕ → Step
system_reset c = smc c 0x84000009 0 0 0

-- PSCI_SET_SUSPEND_MODE by a core: 0 for platform-coordinated mode, 1 for OS-initiated mode
abbrev pub set_mode : ℕ → ℕ → Step
set_mode c mode = smc c 0x8400000f mode 0 0

-- a core enters: life, number of its start
abbrev pub enter_by : Cause → ℕ → ℕ → ℕ → Step
enter_by cause c life number =
    record { core = c; call = Enter (record { life = life; number = number; cause = cause }) }

abbrev pub enter_boot : ℕ → ℕ → ℕ → Step
enter_boot c life number = enter_by Boot c life number

abbrev pub enter_on : ℕ → ℕ → ℕ → Step
enter_on c life number = enter_by On c life number

abbrev pub enter_wake : ℕ → ℕ → ℕ → Step
enter_wake c life number = enter_by Wake c life number

abbrev pub enter_reset : ℕ → ℕ → ℕ → Step
enter_reset c life number = enter_by Reset c life number

-- the boot core's first start
abbrev pub boot : Step
boot = enter_boot 0 1 1

-- an acknowledgement: kind, core, life, number; how many parts were applied, whether it is stale
abbrev pub take : Kind → ℕ → ℕ → ℕ → ℕ → Bool → Step
take kind c life number applied stale = record {
  core = 0;
  call = Take (record {
    kind = kind;
    core = record { number = c };
    life = life;
    number = number;
    applied = applied;
    stale = stale;
  });
}

-- of a Down: core, life, number; how many parts were applied, and nothing is stale
abbrev pub take_down : ℕ → ℕ → ℕ → ℕ → Step
take_down c life number applied = take kinds.Down c life number applied false

-- Replies -------------------------------------------------------------------------------------

-- the caller goes on with this code, and nothing is sent
abbrev pub code : ℤ → FwReply
code z = Out (record { act = acts.Return (record { 0 = z }); message = None })

-- a code of 0 or more, and one below 0 by its absolute value
abbrev pub value : ℕ → FwReply
value n = code (pos n)

abbrev pub error : ℕ → FwReply
error zero = code (pos 0)
error (suc n) = code (negsuc n)

-- the core goes on there: entry point, context id
abbrev pub goes_to : ℕ → ℕ → FwReply
goes_to address context = Out (record { act = acts.Enter address context; message = None })

-- the boot core goes on at the boot address
abbrev pub boots : FwReply
boots = goes_to 0x40000000 0

-- core 3 goes on where the boot core asked it on
abbrev pub goes_on_3 : FwReply
goes_on_3 = goes_to 0x40001000 7

-- a core resumes
abbrev pub resumes : FwReply
resumes = Out (record { act = acts.Resume; message = None })

-- a message: kind, core, life, number, parts
abbrev pub message : Kind → ℕ → ℕ → ℕ → List Part → MessageValue
message kind c life number parts = record {
  kind = kind;
  core = record { number = c };
  life = life;
  number = number;
  parts = parts;
}

-- a part: level, depth, generation
abbrev pub part : ℕ → ℕ → ℕ → Part
part level depth generation = record { level = level; depth = depth; generation = generation }

-- SUCCESS, and a Start message: core, life, number
abbrev pub starts : ℕ → ℕ → ℕ → FwReply
starts c life number = Out (record {
  act = acts.Return (record { 0 = pos 0 });
  message = Some (message kinds.Start c life number []);
})

-- a core stops, with a message of this kind: core, life, number, parts
abbrev pub stops_by : Kind → ℕ → ℕ → ℕ → List Part → FwReply
stops_by kind c life number parts =
    Out (record { act = acts.Stop; message = Some (message kind c life number parts) })

-- a core stops, with a Down
abbrev pub stops : ℕ → ℕ → ℕ → List Part → FwReply
stops c life number parts = stops_by kinds.Down c life number parts

-- a core stops, and nothing is sent
abbrev pub stops_still : FwReply
stops_still = Out (record { act = acts.Stop; message = None })

-- an acknowledgement was used, or old
abbrev pub used : FwReply
used = Taken takens.Used

abbrev pub old : FwReply
old = Taken takens.Old

-- a call was refused
abbrev pub refused : FwFault → FwReply
refused fault = Fault fault

-- What is answered ----------------------------------------------------------------------------

-- a call, and the reply to it
abbrev pub Row : Type 0
Row = tables.Row Step FwReply

-- one more exchange of a history: this call with this reply
abbrev pub with_entry : Step → FwReply → List FwExchange → List FwExchange
with_entry s reply h = record { core = s.core; call = s.call; reply = reply } ∷ h

-- the legal history of these calls, the first one first, after a history
abbrev pub history_from : BoardValue → List FwExchange → List Step → List FwExchange
history_from b h [] = h
history_from b h (s ∷ ss) =
    history_from b (with_entry s (legal_reply b h s.core s.call) h) ss

abbrev pub history_of : BoardValue → List Step → List FwExchange
history_of b steps = history_from b [] steps

-- the replies by looking backwards along the history, the first one first
abbrev pub by_history : BoardValue → List Step → List FwReply
by_history b steps = reverse (map (λ e. e.reply) (history_of b steps))

-- the replies by the values that are kept from call to call
abbrev pub by_values : BoardValue → Values → List Step → List FwReply
by_values b v [] = []
by_values b v (s ∷ ss) =
    let reply = answer b v s.core s.call in
    reply ∷ by_values b (after b s.core s.call reply v) ss

-- each of these runs, on its board, is answered so, by the history and by the values alike
pub record AreAnsweredOn (runs : List (tables.Row BoardValue (List Row))) : Type 0 where
  pub history : map (λ run. by_history run.given (map (λ r. r.given) run.comes)) runs
      ≡ map (λ run. map (λ r. r.comes) run.comes) runs
  pub values :
      map (λ run. by_values run.given (start_of_life run.given 0) (map (λ r. r.given) run.comes))
      runs
      ≡ map (λ run. map (λ r. r.comes) run.comes) runs
