-- What a function is answered is allowed: one that stops its caller, CPU_ON, and all others.
use Rattle.std.specs.Prelude.{Result}
use Rattle.std.proofs.Common.{is_some}
use Rattle.psci_messages.specs.psci_state.PowerState.{deepest_of}
use Rattle.psci_fw_spec.specs.Answer.{answer, enter_outcome}
use Rattle.psci_fw_spec.specs.PowerCalls.{set_suspend_mode, target_of}
use Rattle.psci_fw_spec.specs.Effects.{going_off, rest_named, suspends}
use Rattle.psci_fw_spec.specs.Invariant.{IsPhase}
use Rattle.psci_fw_spec.specs.psci_abi.Calls.{request_of}
use Rattle.psci_fw_spec.specs.psci_abi.declared.registers.Regs.{Regs}
use Rattle.psci_fw_spec.proofs.Endings.{outcome_ends, reset2_ends, suspend_ends, system_ends}
use Rattle.psci_fw_laws.proofs.Following.{found_life}
use Rattle.psci_fw_laws.proofs.Folds.{Allows, IsReady, outcome_effect, returned}
use Rattle.psci_fw_laws.proofs.Made.{AreMade, new_claim, off_made, suspend_made, suspend_own}
use Rattle.psci_fw_laws.proofs.Claiming.{updated_here}
use Rattle.psci_fw_laws.proofs.Started.{system_other}
use Rattle.psci_fw_laws.proofs.Words.{[], ◌==◌, ◌∙◌, ◌≡◌, ◌≤◌, AckValue, activity_of, agrees, ap}
use Rattle.psci_fw_laws.proofs.Words.{AreValues, arith, ask_named, asks, Away, BoardValue, Bool}
use Rattle.psci_fw_laws.proofs.Words.{call_fault, change, Code, cond, cond_both, Core, core_of}
use Rattle.psci_fw_laws.proofs.Words.{effect_of, Enter, enter_effect, enter_fault, eqb-false, Err}
use Rattle.psci_fw_laws.proofs.Words.{false, function_outcome, FwCall, FwFault, Halts, height}
use Rattle.psci_fw_laws.proofs.Words.{in_life, is_system, IsAllowed, IsAsk, IsCalling, IsEntering}
use Rattle.psci_fw_laws.proofs.Words.{Kind, List, message_for, MessageValue, nat_tests, None}
use Rattle.psci_fw_laws.proofs.Words.{off_message, off_parts, Ok, Opening, Option, or_left}
use Rattle.psci_fw_laws.proofs.Words.{or_right, Outcome, outcome_at, outcome_of, Parks, Part}
use Rattle.psci_fw_laws.proofs.Words.{Pending, Phase, refl, reply_or, Request, Rest, Rests, resumes}
use Rattle.psci_fw_laws.proofs.Words.{Running, slice_get, slot_of, Smc, Some, Start, start_of_life}
use Rattle.psci_fw_laws.proofs.Words.{start_outcome, Status, stops_with, subst, suspend_asked}
use Rattle.psci_fw_laws.proofs.Words.{suspend_parts, Suspended, sym, system_reset2, system_suspend}
use Rattle.psci_fw_laws.proofs.Words.{Take, taken, true, unless_pending, updated, Values}
use Rattle.psci_fw_laws.proofs.Words.{with_arrival, with_phase, with_rest, ℕ}
use Rattle.psci_board.specs.Board.{IsBoard}
use Rattle.psci_fw_spec.proofs.Always.{first_values, off_is_claim, park_is_claim, suspend_is_claim}
use Rattle.psci_messages.proofs.History.{part-by-part}
use Rattle.psci_board.proofs.Named.{word_laws}
use Rattle.psci_messages.specs.declared.kind.Kind.TheVariants as kinds
use Rattle.psci_fw_spec.specs.declared.outcome.Act.TheVariants as acts
use Rattle.psci_fw_spec.specs.declared.reply.FwReply.TheVariants as replies
use Rattle.psci_fw_spec.specs.declared.status.Status.TheVariants as statuses
use Rattle.psci_fw_spec.specs.psci_abi.declared.request.Request.TheVariants as requests

-- Stops -------------------------------------------------------------------------------------------

-- Stops ---------------------------------------------------------------------------------------

module _ {b : BoardValue} {v : Values} {c : ℕ} (board : IsBoard b) (ready : IsReady b v)
    (calls : IsCalling b v c) (awake : v.halting ≡ false) where
  -- a core that stops with parts that are made for it
  stopped : (rest : Rest) (parts : List Part) → (rest.phase ≡ Running → ⊥)
      → (rest.phase ≡ Pending → ⊥)
      → (AreValues b (change b (Rests c rest (message_for v kinds.Down c parts)) v)
      → Rattle.psci_messages.specs.Message.AreClaims parts) → AreMade b v.known c parts
      → ((level : ℕ) (p : Part) → slice_get parts level ≡ Some p
      → p.depth ≤ asks (activity_of rest.phase) level)
      → Allows b v (Rests c rest (message_for v kinds.Down c parts))
  stopped rest parts stops waits claim made own are =
      let left : updated v.phase c (unless_pending (v.phase c) rest.phase) c ≡ rest.phase =
      updated_here v.phase c (unless_pending (v.phase c) rest.phase)
      ∙ ap (λ p. unless_pending p rest.phase) calls.runs in
      record {
        calls = calls;
        awake = awake;
        core = refl;
        stops = stops;
        waits = waits;
        claim = new_claim b (with_rest c rest v) c parts board calls.core calls.begun
            (ready.entered c calls.runs) (ready.values.known c) awake (λ e. waits (sym left ∙ e))
            (claim are) made
            (λ level p e. subst (λ x. p.depth ≤ asks (activity_of x) level) (sym left)
            (own level p e)) are;
      }

  pub off_allowed : Allows b v (Rests c going_off (off_message b v c))
  off_allowed =
      let claim = off_is_claim b v c board calls.core ready.values calls.runs in
      stopped going_off (off_parts b v c) (λ e. cc) (λ e. cc) (λ are. claim) (off_made b v c board)
      (part-by-part (off_parts b v c) claim).deepest

  -- the ask of a core that is suspended is one
  asked : (o : Opening) (ask : List ℕ) (parts : List Part) → v.phase c ≡ Running
      → AreValues b (change b (Rests c (suspends o ask) (message_for v kinds.Down c parts)) v)
      → IsAsk ask
  asked o ask parts runs are =
      let left : updated v.phase c (unless_pending (v.phase c) (Suspended ask)) c ≡ Suspended ask =
      updated_here v.phase c (unless_pending (v.phase c) (Suspended ask))
      ∙ ap (λ p. unless_pending p (Suspended ask)) runs in
      let is : IsPhase b (Suspended ask) = subst (IsPhase b) left (are.phase c) in
      is.0

  -- a core is suspended
  rests_allowed : (o : Opening) (ask : List ℕ) (parts : List Part)
      → suspend_parts b v c ask ≡ Ok parts
      → Allows b v (Rests c (suspends o ask) (message_for v kinds.Down c parts))
  rests_allowed o ask parts made =
      stopped (suspends o ask) parts (λ s. cc) (λ s. cc)
      (λ are. suspend_is_claim b v c ask parts board calls.core ready.values calls.runs
      (asked o ask parts calls.runs are) made) (suspend_made board calls.core v ask parts made)
      (suspend_own board calls.core v ask parts calls.runs made)

  -- a core asks for a power state
  pub suspend_allowed : (state entry_point context : ℕ)
      → Allows b v
      (outcome_effect b c (requests.CpuSuspend state entry_point context)
      (suspend_asked b v c entry_point (ask_named b state)))
  suspend_allowed state entry_point context =
      suspend_ends (λ o. Allows b v (outcome_effect b c request o)) b v c entry_point
      (ask_named b state) (λ code. returned calls request code)
      (λ ask parts is made.
      subst (λ r. Allows b v (Rests c (rest_named opening r) (message_for v kinds.Down c parts)))
      (sym is) (rests_allowed opening ask parts made))
    where
      request : Request
      request = requests.CpuSuspend state entry_point context

      opening : Opening
      opening = record { address = entry_point; context = context }

  -- a core suspends the system
  pub system_allowed : (entry_point context : ℕ)
      → Allows b v
      (outcome_effect b c (requests.SystemSuspend entry_point context)
      (system_suspend b v c entry_point))
  system_allowed entry_point context =
      system_ends (λ o. Allows b v (outcome_effect b c request o)) b v c entry_point
      (λ code. returned calls request code)
      (λ parts made.
      rests_allowed (record { address = entry_point; context = context }) (deepest_of (height b))
      parts made)
    where
      request : Request
      request = requests.SystemSuspend entry_point context

-- The target of an accepted CPU_ON is a core of the board that is off -----------------------------

-- CPU_ON --------------------------------------------------------------------------------------

-- The core that an accepted CPU_ON starts.
record IsTarget (b : BoardValue) (v : Values) (word : ℕ) (t : Core) : Type 0 where
  pub named : core_of b word ≡ Some t
  pub off : v.status t.number ≡ statuses.Off
  pub room : (v.known t.number == b.starts) ≡ false

target_found : (b : BoardValue) (v : Values) (word entry_point : ℕ) (t : Core)
    → target_of b v word entry_point ≡ Ok t → IsTarget b v word t
unfolding target_of
target_found b v word entry_point t e = search (arith, nat_tests)

off_is_away : (s : Status) (p : Phase) → agrees s p ≡ true → s ≡ statuses.Off → p ≡ Away
off_is_away s p e f = grind (arith, nat_tests)

module _ {b : BoardValue} {v : Values} {c : ℕ} (board : IsBoard b) (ready : IsReady b v)
    (calls : IsCalling b v c) (awake : v.halting ≡ false) where
  pub on_allowed : (word entry_point context : ℕ) (r : Result Core Code)
      → target_of b v word entry_point ≡ r
      → Allows b v
      (outcome_effect b c (requests.CpuOn word entry_point context) (start_outcome v r))
  on_allowed word entry_point context (Err code) e are =
      returned calls (requests.CpuOn word entry_point context) code are
  on_allowed word entry_point context (Ok t) e are =
      let target = target_found b v word entry_point t e in
      let limit = ready.values.known t.number in
      record {
        calls = calls;
        awake = awake;
        off = target.off;
        away = off_is_away (v.status t.number) (v.phase t.number) (ready.values.agree t.number)
            target.off;
        plain = record {
          life = calls.begun;
          present = refl;
          core = (word_laws b board).core word t target.named;
          number = refl;
          limit = limit;
          parts = refl;
          other = refl;
        };
        kind = refl;
        room = omega (arith, limit, eqb-false _ _ target.room);
      }

-- All functions -------------------------------------------------------------------------------

module _ {b : BoardValue} {v : Values} {c : ℕ} (board : IsBoard b) (ready : IsReady b v)
    (calls : IsCalling b v c) (awake : v.halting ≡ false) where
  halt_allowed : (kind : Kind) → is_system kind ≡ true
      → IsAllowed b v (Halts c (message_for v kind c []))
  halt_allowed kind system = search (arith, nat_tests, system_other)

  -- SYSTEM_RESET2 halts by type 0, and returns by every other
  reset2_allowed : (reset_type cookie : ℕ)
      → Allows b v
      (outcome_effect b c (requests.SystemReset2 reset_type cookie) (system_reset2 v c reset_type))
  reset2_allowed reset_type cookie =
      reset2_ends (λ o. Allows b v (outcome_effect b c request o)) v c reset_type
      (λ code are. calls) (λ are. halt_allowed kinds.Reset refl)
    where
      request : Request
      request = requests.SystemReset2 reset_type cookie

  function_allowed : (r : Request) → Allows b v (outcome_effect b c r (function_outcome b v c r))
  function_allowed (requests.CpuSuspend state entry_point context) are =
      suspend_allowed board ready calls awake state entry_point context are
  function_allowed requests.CpuOff are = off_allowed board ready calls awake are
  function_allowed (requests.CpuOn target entry_point context) are =
      on_allowed board ready calls awake target entry_point context
      (target_of b v target entry_point) refl are
  function_allowed requests.SystemOff are = halt_allowed kinds.Off refl
  function_allowed requests.SystemReset are = halt_allowed kinds.Reset refl
  function_allowed (requests.SystemSuspend entry_point context) are =
      system_allowed board ready calls awake entry_point context are
  function_allowed (requests.SetSuspendMode mode) are =
      returned calls (requests.SetSuspendMode mode) (set_suspend_mode b v c mode) are
  function_allowed (requests.SystemReset2 reset_type cookie) are =
      reset2_allowed reset_type cookie are
  function_allowed r are = calls

-- in a halting life every function stops its caller
pub call_allowed : (b : BoardValue) (v : Values) (c : ℕ) (r : Request) → IsBoard b
    → IsReady b v → IsCalling b v c → Allows b v (outcome_effect b c r (outcome_of b v c r))
call_allowed b v c r board ready calls =
    outcome_ends (λ o. Allows b v (outcome_effect b c r o)) b v c r
    (λ halting are. record { calls = calls; halting = halting })
    (λ awake. function_allowed board ready calls awake r)

-- What a call, an entry or an acknowledgement is answered is allowed ------------------------------

-- Calls ---------------------------------------------------------------------------------------

calling : (b : BoardValue) (v : Values) (c : ℕ) → call_fault b v c ≡ None → IsCalling b v c
calling b v c e = search (arith, nat_tests)

entering : (b : BoardValue) (v : Values) (c : ℕ) (s : Start) → enter_fault b v c s ≡ None
    → IsEntering b v c s
entering b v c s e = search (arith, nat_tests)

-- a core without an opening is not pending
not_pending : (b : BoardValue) (v : Values) (c : ℕ) → AreValues b v → v.halting ≡ false
    → v.opening c ≡ None → v.phase c ≡ Pending → ⊥
not_pending b v c are awake none waits = grind (arith, waits)

module _ {b : BoardValue} {v : Values} (board : IsBoard b) (ready : IsReady b v) where
  smc_allowed : (c : ℕ) (regs : Regs) (f : Option FwFault) → call_fault b v c ≡ f
      → Allows b v (effect_of b c (Smc regs) (reply_or f (outcome_of b v c (request_of regs))))
  smc_allowed c regs f e = grind (arith, nat_tests, call_allowed, calling)

  -- Entries -------------------------------------------------------------------------------------

  -- what a core finds are values such as the firmware keeps
  found_values : (life : ℕ) → AreValues b v → AreValues b (in_life b life v)
  found_values life are =
      cond_both (life == v.life) v (start_of_life b life) (AreValues b) (λ e. are)
      (λ e. first_values b life board)

  parks_allowed : (c : ℕ) (s : Start) → IsEntering b v c s → (in_life b s.life v).halting ≡ false
      → (in_life b s.life v).opening c ≡ None
      → Allows b v (Parks c s (off_message b (with_arrival b c s v) c))
  parks_allowed c s enters awake none are =
      let found : Values = in_life b s.life v in
      let arrived : Values = with_arrival b c s v in
      let w : Values = with_phase c Away arrived in
      let values : AreValues b found = found_values s.life ready.values in
      let waits : found.phase c ≡ Pending → ⊥ = not_pending b found c values awake none in
      let known : w.known c ≡ s.number = updated_here found.known c s.number in
      let left : w.phase c ≡ unless_pending (found.phase c) Away =
      updated_here found.phase c (unless_pending (found.phase c) Away) in
      let stays : w.phase c ≡ Away =
      left ∙ stays_away (found.phase c) waits in
      let claim = park_is_claim b v c s board enters.core ready.values awake none in
      record {
        enters = enters;
        awake = awake;
        none = none;
        core = refl;
        claim = new_claim b w c (off_parts b arrived c) board enters.core
            (omega (arith, found_life b v s.life, enters.begun)) (omega (arith, known, enters.some))
            (omega (arith, known, enters.most)) awake
            (λ e. let no : Away ≡ Pending = sym stays ∙ e in absurd (cc)) claim
            (off_made b arrived c board)
            (λ level p e. subst (λ x. p.depth ≤ asks (activity_of x) level) (sym stays)
            ((part-by-part (off_parts b arrived c) claim).deepest level p e)) are;
      }
    where
      stays_away : (p : Phase) → (p ≡ Pending → ⊥) → unless_pending p Away ≡ Away
      stays_away Pending ne = absurd (ne refl)
      stays_away p ne = refl

  arrival_allowed : (c : ℕ) (s : Start) (o : Option Opening) → IsEntering b v c s
      → (in_life b s.life v).halting ≡ false → (in_life b s.life v).opening c ≡ o
      → let found = in_life b s.life v in
      let outcome = outcome_at b found (with_arrival b c s v) c s o in
      Allows b v (enter_effect c s outcome.act outcome.message)
  arrival_allowed c s (Some o) enters awake e =
      grind (arith, nat_tests, or_left, or_right, parks_allowed)
  arrival_allowed c s None enters awake e =
      by_test (resumes (in_life b s.life v) c s) refl
    where
      outcome : Bool → Outcome
      outcome t = cond t
          (record { act = acts.Resume; message = None })
          (stops_with (off_message b (with_arrival b c s v) c))

      by_test : (t : Bool) → resumes (in_life b s.life v) c s ≡ t
          → Allows b v (enter_effect c s (outcome t).act (outcome t).message)
      by_test true r = λ are. record {
        enters = enters;
        awake = awake;
        asked = or_right (is_some ((in_life b s.life v).opening c)) _ r;
      }
      by_test false r = parks_allowed c s enters awake e

  enter_allowed : (c : ℕ) (s : Start) (f : Option FwFault) → enter_fault b v c s ≡ f
      → Allows b v (effect_of b c (Enter s) (reply_or f (enter_outcome b v c s)))
  unfolding enter_outcome
  enter_allowed c s f e = grind (arith, nat_tests, entering, arrival_allowed)

  -- Acknowledgements ----------------------------------------------------------------------------

  take_allowed : (c : ℕ) (a : AckValue) (o : Option MessageValue)
      → v.outstanding (slot_of a.kind a.core) ≡ o
      → Allows b v (effect_of b c (Take a) (replies.Taken (taken a o)))
  take_allowed c a o at = grind (arith, nat_tests)

  -- All calls -----------------------------------------------------------------------------------

  pub answer_allowed : (c : ℕ) (call : FwCall) → Allows b v (effect_of b c call (answer b v c call))
  unfolding answer
  answer_allowed c (Smc regs) = smc_allowed c regs (call_fault b v c) refl
  answer_allowed c (Enter s) = enter_allowed c s (enter_fault b v c s) refl
  answer_allowed c (Take a) = take_allowed c a (v.outstanding (slot_of a.kind a.core)) refl
