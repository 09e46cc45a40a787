-- What a call tells that was not refused: there is a life, and the core that it may change is
-- one of the board.
use Rattle.std.proofs.Common.{◌<◌, ◌∙◌, ◌≡◌, ◌≢◌, ap, arith, Bool, Err, false, List, None, Ok}
use Rattle.std.proofs.Common.{Option, refl, Result, Some, subst, sym, true, ℕ}
use Rattle.std.specs.Prelude.{◌==◌, ◌&&◌, not, option_map, IfSome}
use Rattle.std.proofs.lemmas.Bool.{and_parts, cond_both, eqb-true}
use Rattle.std.proofs.lemmas.Bool.Decides.{nat_tests}
use Rattle.atomic_table.specs.Seated.{TableId}
use Rattle.psci_abi.specs.Calls.{request_of}
use Rattle.psci_abi.specs.declared.registers.Code.{Code}
use Rattle.psci_abi.specs.declared.registers.Regs.{Regs}
use Rattle.psci_abi.specs.declared.request.Request.{Request}
use Rattle.psci_abi.specs.declared.request.Request.TheVariants as requests
use Rattle.psci_board.specs.Board.{BoardValue, IsBoard, cores, may_enter}
use Rattle.psci_board.specs.declared.draft.Core.{Core}
use Rattle.psci_state.specs.PowerState.{is_deep}
use Rattle.psci_state.specs.declared.fault.BadState.{BadState}
use Rattle.psci_messages.specs.declared.kind.Kind.{Kind}
use Rattle.psci_messages.specs.declared.kind.Kind.TheVariants as kinds
use Rattle.psci_messages.specs.declared.osi.Osi.{Osi}
use Rattle.psci_messages.specs.declared.part.Part.{Part}
use Rattle.psci_messages.specs.declared.start.Start.{Start}
use Rattle.psci_messages.specs.declared.taken.Taken.{Taken}
use Rattle.psci_messages.specs.declared.taken.Taken.TheVariants.{Used, Old}
use Rattle.psci_messages.specs.Message.{AckValue, MessageValue}
use Rattle.psci_messages.specs.Slots.{answers, slot_of}
use Rattle.psci_fw.specs.Reactions.{FirmwareValue, seen, slot_number}
use Rattle.psci_fw_laws.specs.Renumbered.{IsAllowed, IsAwaited}
use Rattle.psci_fw_laws.specs.Messages.{Holds, IsOfLife}
use Rattle.psci_fw_spec.specs.declared.call.FwCall.{FwCall}
use Rattle.psci_fw_spec.specs.declared.call.FwCall.TheVariants.{Smc, Enter, Take}
use Rattle.psci_fw_spec.specs.declared.fault.FwFault.{FwFault}
use Rattle.psci_fw_spec.specs.declared.outcome.Act.{Act}
use Rattle.psci_fw_spec.specs.declared.outcome.Act.TheVariants as acts
use Rattle.psci_fw_spec.specs.declared.outcome.Outcome.{Outcome}
use Rattle.psci_fw_spec.specs.declared.reply.FwReply.{FwReply}
use Rattle.psci_fw_spec.specs.declared.reply.FwReply.TheVariants as replies
use Rattle.psci_fw_spec.specs.Answer.{answer, call_fault, enter_fault, enter_outcome}
use Rattle.psci_fw_spec.specs.Answer.{function_outcome, outcome_of, reply_or}
use Rattle.psci_fw_spec.specs.PowerCalls.{all_others, ask_named, is_off_status, suspend_answer}
use Rattle.psci_fw_spec.specs.PowerCalls.{suspend_asked, system_suspend}
use Rattle.psci_fw_spec.specs.Effects.{effect_of, function_effect, FwExchange, sent_messages}
use Rattle.psci_fw_spec.specs.History.{values_of}
use Rattle.psci_fw_spec.specs.Legal.{IsLegal}
use Rattle.psci_fw_spec.specs.Values.{Values}
use Rattle.psci_fw_spec.specs.declared.status.Status.{Status}
use Rattle.psci_status.specs.Lists.{IsPolled, slot_beside, used_by}
use Rattle.psci_status.proofs.CallSteps.{slot_of_start}
use Rattle.psci_status.proofs.Counting.{Kept}

-- An entry ----------------------------------------------------------------------------------------

entered : (b : BoardValue) (v : Values) (c : ℕ) (s : Start) → enter_fault b v c s ≡ None
    → (c < cores b) × (s.life ≢ 0)
entered b v c s e = search (arith, nat_tests)

pub entry_told : (b : BoardValue) (v : Values) (c : ℕ) (s : Start) (o : Outcome)
    → replies.Out o ≡ answer b v c (Enter s) → (c < cores b) × (s.life ≢ 0)
unfolding answer
entry_told b v c s o is = by_fault (enter_fault b v c s) refl is
  where
    by_fault : (f : Option FwFault) → enter_fault b v c s ≡ f
        → replies.Out o ≡ reply_or f (enter_outcome b v c s) → (c < cores b) × (s.life ≢ 0)
    by_fault (Some fault) e is = absurd (cc)
    by_fault None e is = entered b v c s e

-- What is sent beside a return code ---------------------------------------------------------------

abbrev is_beside : Act → Option MessageValue → Bool
is_beside (acts.Return code) (Some m) = true
is_beside act m = false

abbrev sends : Outcome → Bool
sends o = is_beside o.act o.message

abbrev asks_on : Request → Bool
asks_on (requests.CpuOn target entry_point context) = true
asks_on r = false

abbrev SendsNone : Outcome → Type 0
SendsNone o = sends o ≡ false

answer_alone : (v : Values) (c : ℕ) (parts : Result (List Part) Osi)
    → SendsNone (suspend_answer v c parts)
answer_alone v c (Err reason) = refl
answer_alone v c (Ok parts) = refl

suspend_alone : (b : BoardValue) (v : Values) (c entry_point : ℕ)
    (ask : Result (List ℕ) BadState) → SendsNone (suspend_asked b v c entry_point ask)
suspend_alone b v c entry_point (Err bad) = refl
suspend_alone b v c entry_point (Ok ask) =
    cond_both (is_deep ask && not (may_enter b entry_point)) _ _ SendsNone (λ bad. refl)
    (λ good. cond_both (v.known c == b.starts) _ _ SendsNone (λ last. refl)
    (λ more. answer_alone v c _))

system_alone : (b : BoardValue) (v : Values) (c entry_point : ℕ)
    → SendsNone (system_suspend b v c entry_point)
system_alone b v c entry_point =
    cond_both (not (may_enter b entry_point)) _ _ SendsNone (λ bad. refl)
    (λ good. cond_both (not (all_others b c (λ k. is_off_status (v.status k)))) _ _ SendsNone
    (λ others. refl) (λ alone. cond_both (v.known c == b.starts) _ _ SendsNone (λ last. refl)
    (λ more. answer_alone v c _)))

-- a CPU_ON alone sends something and returns
function_alone : (b : BoardValue) (v : Values) (c : ℕ) (r : Request) → asks_on r ≡ false
    → SendsNone (function_outcome b v c r)
function_alone b v c (requests.CpuOn target entry_point context) not = absurd (cc)
function_alone b v c (requests.CpuSuspend state entry_point context) not =
    suspend_alone b v c entry_point (ask_named b state)
function_alone b v c (requests.SystemSuspend entry_point context) not =
    system_alone b v c entry_point
function_alone b v c (requests.SystemReset2 reset_type cookie) not =
    cond_both (reset_type == 0) _ _ SendsNone (λ is. refl) (λ other. refl)
function_alone b v c r not = refl

outcome_alone : (b : BoardValue) (v : Values) (c : ℕ) (r : Request) → asks_on r ≡ false
    → SendsNone (outcome_of b v c r)
unfolding outcome_of
outcome_alone b v c r not =
    cond_both v.halting _ (function_outcome b v c r) SendsNone (λ halts. refl)
    (λ awake. function_alone b v c r not)

abbrev sent_in : FwReply → Bool
sent_in (replies.Out o) = sends o
sent_in reply = false

reply_alone : (fault : Option FwFault) (o : Outcome) → SendsNone o
    → sent_in (reply_or fault o) ≡ false
reply_alone (Some fault) o none = refl
reply_alone None o none = none

-- whom it is sent for is of the board
module _ (b b' : BoardValue) (v : Values) (c : ℕ) (code : Code) (m : MessageValue) where
  sent_told : (r : Request) → IsAllowed b v (function_effect b c r (acts.Return code) (Some m))
      → replies.Out (record { act = acts.Return code; message = Some m })
      ≡ reply_or (call_fault b v c) (outcome_of b v c r)
      → (slot_number b' m < cores b) × (v.life ≢ 0)
  sent_told (requests.CpuOn target entry_point context) allowed is =
      (rw (slot_of_start b' m allowed.kind) allowed.plain.core, omega (arith, allowed.calls.begun))
  sent_told r allowed is =
      let none = ap sent_in is ∙ reply_alone (call_fault b v c) _ (outcome_alone b v c r refl) in
      absurd (cc)

function_told : (b b' : BoardValue) (v : Values) (c : ℕ) (r : Request) (act : Act)
    (m : Option MessageValue) → IsAllowed b v (function_effect b c r act m)
    → replies.Out (record { act = act; message = m })
    ≡ reply_or (call_fault b v c) (outcome_of b v c r)
    → IfSome (slot_beside act (option_map (slot_number b') m))
    (λ core. (core.number < cores b) × (v.life ≢ 0))
function_told b b' v c r (acts.Return code) (Some m) allowed is =
    sent_told b b' v c code m r allowed is
function_told b b' v c r act m allowed is = tt

-- An acknowledgement ------------------------------------------------------------------------------

same_core : (a : AckValue) (m : MessageValue) → answers a m ≡ true → a.core.number ≡ m.core.number
same_core a m e = eqb-true a.core.number m.core.number (and_parts _ _ (and_parts _ _ e).1).0

module _ {b : BoardValue} (v : Values) {sent : List MessageValue} (holds : Holds b v sent)
    (a : AckValue) where
  -- what is outstanding was sent in this life
  was_sent : (k : Kind) (m : MessageValue) → v.outstanding (slot_of k a.core) ≡ Some m
      → IsOfLife v.life sent m
  was_sent kinds.Down m at = (holds.slots.core a.core.number m at).listed
  was_sent kinds.Start m at = (holds.slots.core a.core.number m at).listed
  was_sent kinds.Off m at = holds.slots.system m at
  was_sent kinds.Reset m at = holds.slots.system m at

  awaited_told : IsAwaited v a → (a.core.number < cores b) × (v.life ≢ 0)
  awaited_told awaited =
      let m = awaited.message in
      let listed = was_sent a.kind m awaited.at in
      let sound = holds.messages listed.index m listed.at in
      let same = same_core a m awaited.answers in
      (rw same sound.sound.core, omega (arith, sound.sound.life, sound.begun))

-- By the firmware's past --------------------------------------------------------------------------

abbrev pub Holding : Type 0
Holding = (b : BoardValue) (h : List FwExchange) → IsBoard b → IsLegal b h
    → Holds b (values_of b h) (sent_messages b h)

module _ {f : FirmwareValue} (f' : FirmwareValue) {table : TableId} {rows : List (List Status)}
    {n : ℕ} (p : IsPolled f table rows n) where
  is_allowed : (c : ℕ) (call : FwCall) (reply : FwReply) → Kept
      → reply ≡ answer f.board (seen f) c call
      → IsAllowed f.board (seen f) (effect_of f.board c call reply)
  is_allowed c call reply allowed is =
      let e : FwExchange = record { core = c; call = call; reply = reply } in
      subst (λ (v : Values). IsAllowed f.board v (effect_of f.board c call reply))
      (sym p.past.values) (allowed f.board e p.past.history p.board
      (is ∙ ap (λ (v : Values). answer f.board v c call) p.past.values, p.past.legal))

  pub enter_known : (c : ℕ) (s : Start) {o : Outcome}
      → replies.Out o ≡ answer f.board (seen f) c (Enter s) → (seen f').life ≡ s.life
      → (c < n) × ((seen f').life ≡ s.life) × (s.life ≢ 0)
  enter_known c s {o} is life =
      let told = entry_told f.board (seen f) c s o is in (rw p.count told.0, life, told.1)

  pub smc_known : (c : ℕ) (regs : Regs) {o : Outcome} {slot : Option ℕ} {asked : Option Core}
      → Kept → replies.Out o ≡ answer f.board (seen f) c (Smc regs)
      → (seen f').life ≡ (seen f).life
      → slot ≡ option_map (slot_number f'.board) o.message → asked ≡ slot_beside o.act slot
      → IfSome asked (λ core. (core.number < n) × ((seen f').life ≢ 0))
  unfolding answer
  smc_known c regs {o} allowed is life there beside =
      rw (beside, there, life, p.count)
      (function_told f.board f'.board (seen f) c (request_of regs) o.act o.message
      (is_allowed c (Smc regs) (replies.Out o) allowed is) is)

  pub take_known : (c : ℕ) (a : AckValue) (taken : Taken) {core : Core} {used : Option Core}
      → Kept → Holding → replies.Taken taken ≡ answer f.board (seen f) c (Take a)
      → (seen f').life ≡ (seen f).life → core ≡ a.core → used ≡ used_by taken core
      → IfSome used (λ core. (core.number < n) × ((seen f').life ≢ 0))
  take_known c a taken {core} allowed holding is life same used =
      rw (used, same, life, p.count) (by_reply taken is)
    where
      by_reply : (taken : Taken) → replies.Taken taken ≡ answer f.board (seen f) c (Take a)
          → IfSome (used_by taken a.core)
          (λ core. (core.number < cores f.board) × ((seen f).life ≢ 0))
      by_reply Used is =
          awaited_told (seen f)
          (subst (λ (v : Values). Holds f.board v (sent_messages f.board p.past.history))
          (sym p.past.values) (holding f.board p.past.history p.board p.past.legal)) a
          (is_allowed c (Take a) (replies.Taken Used) allowed is)
      by_reply Old is = tt
