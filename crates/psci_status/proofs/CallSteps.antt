-- What the calls of a polled firmware have to show, over plain values.
use Rattle.std.specs.Prelude.{◌==◌, Err, if◌then◌else◌, Ok, option_map, Result}
use Rattle.std.proofs.Common.{◌*◌, ◌+◌, ◌<◌, ◌^◌, ◌∙◌, ◌∷◌, ◌≡◌, ◌≢◌, ◌≤◌, [], ap, arith, Bool}
use Rattle.std.proofs.Common.{false, length, List, None, Option, refl, replicate, Some, subst}
use Rattle.std.proofs.Common.{sym, true, ℕ}
use Rattle.std.proofs.lemmas.List.{get_or-replicate}
use Rattle.std.proofs.lemmas.Nat.{mul-le}
use Rattle.atomic_table.specs.Seated.{TableId}
use Rattle.psci_abi.specs.Calls.{request_of}
use Rattle.psci_abi.specs.declared.registers.Code.{Code}
use Rattle.psci_abi.specs.declared.registers.Format.TheVariants.{Original}
use Rattle.psci_abi.specs.declared.registers.Regs.{Regs}
use Rattle.psci_abi.specs.declared.request.Request.{Request}
use Rattle.psci_abi.specs.declared.request.Request.TheVariants as requests
use Rattle.psci_board.specs.Board.{BoardValue, core_of, cores, IsBoard, node_of, up}
use Rattle.psci_board.specs.declared.draft.Core.{Core}
use Rattle.psci_messages.specs.Message.{AckValue, MessageValue}
use Rattle.psci_messages.specs.Outstanding.{changes_since, last_message, outstanding}
use Rattle.psci_messages.specs.Slots.{slot_of}
use Rattle.psci_messages.specs.declared.kind.Kind.{Kind}
use Rattle.psci_messages.specs.declared.kind.Kind.TheVariants as kinds
use Rattle.psci_messages.specs.declared.start.Cause.{Cause}
use Rattle.psci_messages.specs.declared.start.Cause.TheVariants.{Boot}
use Rattle.psci_messages.specs.declared.taken.Taken.{Taken}
use Rattle.psci_messages.specs.declared.taken.Taken.TheVariants.{Old, Used}
use Rattle.psci_fw_spec.specs.Effects.{after, effect_of, function_effect, FwExchange}
use Rattle.psci_fw_spec.specs.Effects.{sent_effect}
use Rattle.psci_fw_spec.specs.Answer.{answer, call_fault, enter_outcome, outcome_of, reply_or}
use Rattle.psci_fw_spec.specs.PowerCalls.{off_parts, start_outcome, stops, suspend_parts}
use Rattle.psci_fw_spec.specs.PowerCalls.{target_of}
use Rattle.psci_fw_spec.specs.History.{values_of}
use Rattle.psci_fw_spec.specs.Legal.{IsLegal, legal_reply}
use Rattle.psci_fw_spec.specs.Changes.{start_of_life}
use Rattle.psci_fw_spec.specs.Statuses.{added, statuses}
use Rattle.psci_fw_spec.specs.Values.{Values}
use Rattle.psci_fw_spec.specs.Invariant.{view}
use Rattle.psci_fw_spec.specs.declared.call.FwCall.{FwCall}
use Rattle.psci_fw_spec.specs.declared.call.FwCall.TheVariants.{Enter, Smc, Take}
use Rattle.psci_fw_spec.specs.declared.fault.FwFault.{FwFault}
use Rattle.psci_fw_spec.specs.declared.outcome.Act.{Act}
use Rattle.psci_fw_spec.specs.declared.outcome.Act.TheVariants as acts
use Rattle.psci_fw_spec.specs.declared.outcome.Outcome.{Outcome}
use Rattle.psci_fw_spec.specs.declared.reply.FwReply.{FwReply}
use Rattle.psci_fw_spec.specs.declared.reply.FwReply.TheVariants as replies
use Rattle.psci_fw_spec.specs.declared.status.Status.{Status}
use Rattle.psci_fw_spec.specs.declared.status.Status.TheVariants.{Off}
use Rattle.psci_fw_spec.specs.psci_messages.Claim.{claims_of}
use Rattle.psci_fw_spec.specs.psci_messages.View.{generation, is_all_away, is_idle, least_ask}
use Rattle.psci_fw.specs.Reactions.{FirmwareValue, number_of, seen, slot_number}
use Rattle.psci_status.specs.Lists.{is_named, IsNext, IsPast, IsPolled, IsWrittenFrom}
use Rattle.psci_status.specs.Lists.{most_statuses, names, PolledView, row, slot_beside}
use Rattle.psci_status.specs.Lists.{written_then}
use Rattle.psci_status.proofs.Past.{added_nothing, More, names_return, names_stop, nothing_more}
use Rattle.psci_status.proofs.Past.{past_more}

-- before any call
pub first_statuses : (b : BoardValue) (core : ℕ) → statuses b [] core ≡ Off ∷ []
unfolding statuses
first_statuses b core = refl

pub row_same : (n c : ℕ) → c < n → row (replicate n (Off ∷ [])) c ≡ Off ∷ []
row_same n c h = get_or-replicate n c (Off ∷ []) [] h

pub polled_first : (b : BoardValue) (f : FirmwareValue) (table : TableId)
    (rows : List (List Status)) (n : ℕ) → values_of b [] ≡ start_of_life b 0 → IsBoard b
    → f.board ≡ b → seen f ≡ start_of_life b 0 → rows ≡ replicate (cores b) (Off ∷ [])
    → table.words ≡ cores b → n ≡ cores b → IsPolled f table rows n
polled_first b f table rows n first board is fresh wrote words count =
    record {
      board = rw is board;
      past = subst (λ (x : BoardValue). IsPast x (seen f) rows) (sym is) (record {
        history = [];
        legal = tt;
        values = fresh ∙ sym first;
        written = λ core small. rw (wrote, row_same (cores b) core small, first_statuses) refl;
      });
      words = words ∙ ap cores (sym is);
      count = count ∙ ap cores (sym is);
    }

-- so little was written of each core that its word counts it
pub few_rows : {f : FirmwareValue} {table : TableId} {rows : List (List Status)} {n : ℕ}
    → ((b : BoardValue) (h : List FwExchange) (core : ℕ) → IsBoard b → IsLegal b h
    → length (statuses b h core) ≤ most_statuses b)
    → IsPolled f table rows n → (core : ℕ) → core < n → length (row rows core) < 2 ^ 60
few_rows {f} few p core small =
    let b = f.board in
    let lives : b.lives + 1 ≤ 65536 = omega (arith, p.board.lives) in
    let starts : 3 * b.starts + 8 ≤ 3 * 2 ^ 32 + 8 = omega (arith, p.board.starts) in
    rw (p.past.written core (rw p.count at small))
    (omega (
      arith,
      mul-le (b.lives + 1) (3 * b.starts + 8) 65536 (3 * 2 ^ 32 + 8) lives starts,
      few b p.past.history core p.board p.past.legal,
    ))

-- Whom a CPU_ON names -----------------------------------------------------------------------------

-- what it sends is a Start, which stands in the slot of its core: so the slot of what was sent
-- beside a return code names whom the call names
abbrev sent_message : FwReply → Option MessageValue
sent_message (replies.Out o) = o.message
sent_message reply = None

abbrev sent_kind : Option MessageValue → Kind
sent_kind None = kinds.Start
sent_kind (Some m) = m.kind

start_sent : (fault : Option FwFault) (halting : Bool) (v : Values) (found : Result Core Code)
    (m : MessageValue)
    → Some m ≡ sent_message (reply_or fault (if halting then stops else start_outcome v found))
    → m.kind ≡ kinds.Start
start_sent (Some fault) halting v found m e = ap sent_kind e
start_sent None true v found m e = ap sent_kind e
start_sent None false v (Err code) m e = ap sent_kind e
start_sent None false v (Ok target) m e = ap sent_kind e

pub slot_of_start : (b : BoardValue) (m : MessageValue) → m.kind ≡ kinds.Start
    → slot_number b m ≡ m.core.number
slot_of_start b m e = ap (λ (k : Kind). number_of b (slot_of k m.core)) e

-- a function that returns and sends something names whom it sent it for, if it names a core
module _ (b b' : BoardValue) (v : Values) (c core : ℕ) (code : Code) (m : MessageValue) where
  names_on : (target entry context : ℕ)
      → replies.Out (record { act = acts.Return code; message = Some m })
      ≡ reply_or (call_fault b v c) (outcome_of b v c (requests.CpuOn target entry context))
      → (core == slot_number b' m) ≡ false → (core == m.core.number) ≡ false
  unfolding outcome_of
  names_on target entry context is other =
      let kind = start_sent (call_fault b v c) v.halting v (target_of b v target entry) m
      (ap sent_message is) in
      ap (λ (n : ℕ). core == n) (sym (slot_of_start b' m kind)) ∙ other

  names_sent : (r : Request) → replies.Out (record { act = acts.Return code; message = Some m })
      ≡ reply_or (call_fault b v c) (outcome_of b v c r)
      → (core == slot_number b' m) ≡ false → names (sent_effect c r m) core ≡ false
  names_sent (requests.CpuOn target entry_point context) is other =
      names_on target entry_point context is other
  names_sent r is other = refl

names_function : (b b' : BoardValue) (v : Values) (c core : ℕ) (r : Request) (act : Act)
    (m : Option MessageValue) → replies.Out (record { act = act; message = m })
    ≡ reply_or (call_fault b v c) (outcome_of b v c r)
    → is_named (slot_beside act (option_map (slot_number b') m)) core ≡ false
    → names (function_effect b c r act m) core ≡ false
names_function b b' v c core r acts.Stop (Some m) is other = names_stop b c core r m
names_function b b' v c core r (acts.Return code) (Some m) is other =
    names_sent b b' v c core code m r is other
names_function b b' v c core r (acts.Return code) None is other = names_return c core r code
names_function b b' v c core r act m is other = refl

pub names_by_slot : (b b' : BoardValue) (v : Values) (c core : ℕ) (regs : Regs) (o : Outcome)
    (slot : Option ℕ) → replies.Out o ≡ answer b v c (Smc regs)
    → slot ≡ option_map (slot_number b') o.message
    → is_named (slot_beside o.act slot) core ≡ false
    → names (effect_of b c (Smc regs) (replies.Out o)) core ≡ false
unfolding answer
names_by_slot b b' v c core regs o slot is there other =
    names_function b b' v c core (request_of regs) o.act o.message is
    (subst (λ (s : Option ℕ). is_named (slot_beside o.act s) core ≡ false) there other)

-- After a call ------------------------------------------------------------------------------------

pub life_taken : (b : BoardValue) (c : ℕ) (a : AckValue) (taken : Taken) (v : Values)
    → (after b c (Take a) (replies.Taken taken) v).life ≡ v.life
unfolding after
life_taken b c a Used v = refl
life_taken b c a Old v = refl

module _ {f : FirmwareValue} (f' : FirmwareValue) {table : TableId} {rows : List (List Status)}
    {n : ℕ} (c : ℕ) (call : FwCall) where
  pub polled_next : {reply : FwReply} {table' : TableId} {rows' : List (List Status)} {before : ℕ}
      → More → IsPolled f table rows n
      → reply ≡ answer f.board (seen f) c call → seen f' ≡ after f.board c call reply (seen f)
      → f'.board ≡ f.board → table' ≡ table → before ≡ (seen f).life
      → ((core : ℕ) → core < n
      → row rows' core ≡ written_then before (seen f') core (row rows core))
      → IsPolled f' table' rows' n
  polled_next {reply} {rows' = rows'} more p answered left same kept was wrote =
      record {
        board = rw same p.board;
        past = subst (λ (x : BoardValue). IsPast x (seen f') rows') (sym same)
            (past_more f.board (seen f) (seen f') rows rows' n c call reply more p.past p.count
            answered left (subst (λ (l : ℕ). (core : ℕ) → core < n
            → row rows' core ≡ written_then l (seen f') core (row rows core)) was wrote));
        words = ap (λ (t : TableId). t.words) kept ∙ p.words ∙ ap cores (sym same);
        count = p.count ∙ ap cores (sym same);
      }

  -- whose status does not change
  pub others_stay : (reply : FwReply) {before : ℕ} (changed : Option Core) → More
      → IsPolled f table rows n
      → seen f' ≡ after f.board c call reply (seen f) → before ≡ (seen f).life
      → ((core : ℕ) → is_named changed core ≡ false
      → names (effect_of f.board c call reply) core ≡ false)
      → (core : ℕ) → core < n → is_named changed core ≡ false → (seen f').life ≡ before
      → (seen f').life ≢ 0 → added ((seen f').status core) (row rows core) ≡ row rows core
  others_stay reply changed more p left was named core small other same some =
      added_nothing f.board (seen f) (seen f') rows n c call reply more p.past p.count left core
      small (named core other) (same ∙ was) some

  -- what a call leaves
  pub next_left : {reply : FwReply} {table' : TableId} {rows' : List (List Status)}
      {p : PolledView} {before : ℕ} → IsPolled f table rows n
      → record { firmware = f; table = table; written = rows } ≡ p
      → reply ≡ answer f.board (seen f) c call → seen f' ≡ after f.board c call reply (seen f)
      → f'.board ≡ f.board → table' ≡ table → before ≡ (seen f).life
      → ((core : ℕ) → core < n
      → row rows' core ≡ written_then before (seen f') core (row rows core))
      → IsNext p c call (record { firmware = f'; table = table'; written = rows' })
  next_left {reply} {table'} {rows'} is view answered left same kept was wrote =
      subst (λ (x : PolledView). IsNext x c call
      (record { firmware = f'; table = table'; written = rows' })) view
      (record {
        board = same;
        values = left ∙ ap (λ (r : FwReply). after f.board c call r (seen f)) answered;
        table = kept;
        written = λ core small.
            subst (λ (l : ℕ). row rows' core ≡ written_then l (seen f') core (row rows core)) was
            (wrote core (rw is.count small));
      })

  -- a refused call
  pub next_still : {reply : FwReply} {p : PolledView} → IsPolled f table rows n
      → record { firmware = f; table = table; written = rows } ≡ p
      → reply ≡ answer f.board (seen f) c call → seen f' ≡ after f.board c call reply (seen f)
      → f' ≡ f → IsNext p c call (record { firmware = f'; table = table; written = rows })
  next_still is view answered left same =
      subst (λ (x : PolledView). IsNext x c call
      (record { firmware = f'; table = table; written = rows })) view
      (record {
        board = ap (λ (g : FirmwareValue). g.board) same;
        values = left ∙ ap (λ (r : FwReply). after f.board c call r (seen f)) answered;
        table = refl;
        written = subst (λ (g : FirmwareValue). (core : ℕ) → core < cores f.board
            → row rows core ≡ written_then (seen f).life (seen g) core (row rows core)) (sym same)
            (nothing_more f.board (seen f) rows is.past);
      })

-- a call that changes nothing has nothing to write
pub still_written : {f : FirmwareValue} {table : TableId} {rows : List (List Status)} {n : ℕ}
    {p : PolledView} → IsPolled f table rows n
    → record { firmware = f; table = table; written = rows } ≡ p → IsWrittenFrom p p
still_written {f} {rows = rows} is view =
    subst (λ (x : PolledView). IsWrittenFrom x x) view
    (nothing_more f.board (seen f) rows is.past)

-- A call that leaves the life ---------------------------------------------------------------------

-- what the firmware's laws say of the life after a call
abbrev pub LeavesLife : Type 0
LeavesLife = (b : BoardValue) (v : Values) (c : ℕ) (regs : Regs) (reply : FwReply)
    → (after b c (Smc regs) reply v).life ≡ v.life

module _ {f : FirmwareValue} (f' : FirmwareValue) {table : TableId} {rows : List (List Status)}
    {n : ℕ} (c : ℕ) (regs : Regs) {o : Outcome} (life : LeavesLife) (is : IsPolled f table rows n)
    (answered : replies.Out o ≡ answer f.board (seen f) c (Smc regs))
    (left : seen f' ≡ after f.board c (Smc regs) (replies.Out o) (seen f)) where
  same_life : (seen f').life ≡ (seen f).life
  same_life = rw left (life f.board (seen f) c regs (replies.Out o))

  pub smc_polled : {table' : TableId} {rows' : List (List Status)} → More
      → f'.board ≡ f.board → table' ≡ table
      → ((core : ℕ) → core < n
      → row rows' core ≡ written_then (seen f').life (seen f') core (row rows core))
      → IsPolled f' table' rows' n
  smc_polled more same kept = polled_next f' c (Smc regs) more is answered left same kept
      same_life

  pub smc_next : {table' : TableId} {rows' : List (List Status)} {p : PolledView}
      → record { firmware = f; table = table; written = rows } ≡ p
      → f'.board ≡ f.board → table' ≡ table
      → ((core : ℕ) → core < n
      → row rows' core ≡ written_then (seen f').life (seen f') core (row rows core))
      → IsNext p c (Smc regs) (record { firmware = f'; table = table'; written = rows' })
  smc_next view same kept = next_left f' c (Smc regs) is view answered left same kept same_life

  pub smc_stays : {slot : Option ℕ} {asked : Option Core} → More
      → slot ≡ option_map (slot_number f'.board) o.message → asked ≡ slot_beside o.act slot
      → (core : ℕ) → core < n → is_named asked core ≡ false → (seen f').life ≢ 0
      → added ((seen f').status core) (row rows core) ≡ row rows core
  smc_stays {slot} {asked} more there beside core small other =
      others_stay f' c (Smc regs) (replies.Out o) asked more is left same_life
      (λ k not. names_by_slot f.board f'.board (seen f) c k regs o slot answered there
      (rw beside at not)) core small other refl

-- Calls -------------------------------------------------------------------------------------------
-- Calls for worked examples, on a board of two clusters of two cores: each is answered with the one
-- legal reply.

-- what an example unfolds to compute answers, values and statuses
unfoldable pub computing : Unit {0}
unfolding answer values_of after outcome_of enter_outcome target_of core_of node_of off_parts
    suspend_parts view up claims_of least_ask generation is_all_away is_idle outstanding
    last_message changes_since statuses
computing = tt

abbrev pub board : BoardValue
board = record {
  levels = (2 ∷ 2 ∷ []) ∷ (2 ∷ []) ∷ [];
  ranges = record { start = 0x40000000; end = 0x40100000 } ∷ [];
  boot = 0x40000000;
  starts = 9;
  lives = 3;
  format = Original;
}

-- a call of a core
pub record Step : Type 0 where
  pub core : ℕ
  pub call : FwCall

-- a function that a core asks for: its word, and an affinity word
abbrev pub asks : ℕ → ℕ → ℕ → Step
asks c word target =
    record { core = c; call = Smc (record { x0 = word; x1 = target; x2 = 0x40001000; x3 = 7 }) }

-- a core asks another one on
abbrev pub on : ℕ → ℕ → Step
on c target = asks c 0xc4000003 target

-- CPU_OFF and SYSTEM_OFF by a core
abbrev pub off : ℕ → Step
off c = asks c 0x84000002 0

abbrev pub system_off : ℕ → Step
system_off c = asks c 0x84000008 0

-- a core enters: cause, life, number of its start
abbrev pub enters : Cause → ℕ → ℕ → ℕ → Step
enters cause c life number = record {
  core = c;
  call = Enter (record { life = life; number = number; cause = cause });
}

-- the boot core begins a life
abbrev pub boots : ℕ → Step
boots life = enters Boot 0 life 1

-- an acknowledgement of this kind: core, life, number, and that one part was applied
abbrev pub takes : Kind → ℕ → ℕ → ℕ → Step
takes kind c life number = record {
  core = 0;
  call = Take (record {
    kind = kind;
    core = record { number = c };
    life = life;
    number = number;
    applied = 1;
    stale = false;
  });
}

-- the legal history of these calls after a history, the first call first
abbrev pub with_calls : List FwExchange → List Step → List FwExchange
with_calls h [] = h
with_calls h (s ∷ ss) = with_calls
    (record { core = s.core; call = s.call; reply = legal_reply board h s.core s.call } ∷ h) ss

abbrev pub history : List Step → List FwExchange
history steps = with_calls [] steps
