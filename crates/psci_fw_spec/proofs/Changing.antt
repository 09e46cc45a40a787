-- Changes that claim nothing leave values such as the firmware keeps, and so does that the suspend
-- mode is set.
use Rattle.std.specs.List.{list_all, range_with_len}
use Rattle.psci_state.specs.Cores.{is_away as is_core_away}
use Rattle.psci_state.specs.declared.cores.Activity.TheVariants.{Active}
use Rattle.psci_fw_spec.specs.Effects.{after}
use Rattle.psci_fw_spec.specs.Answer.{answer, enter_outcome, outcome_of}
use Rattle.psci_fw_spec.specs.Changes.{with_acknowledgement, with_halt, with_mode, with_running}
use Rattle.psci_fw_spec.specs.PowerCalls.{is_mode, target_of}
use Rattle.psci_fw_spec.specs.Values.{IsNamed}
use Rattle.psci_fw_spec.specs.Phases.{is_away}
use Rattle.psci_fw_spec.specs.Invariant.{view}
use Rattle.psci_fw_spec.proofs.Granting.{apart, AreBounded, AreGranted, asked_running, asks_at}
use Rattle.psci_fw_spec.proofs.Granting.{awake_from, both_updated, bounded_cleared, bounded_left}
use Rattle.psci_fw_spec.proofs.Granting.{bounded_of, ChangedAt, granted_cleared, granted_of}
use Rattle.psci_fw_spec.proofs.Granting.{IsAllOff, IsLeast, Known, left_else, none_granted}
use Rattle.psci_fw_spec.proofs.Granting.{ran_asks, same_phases, updated_at, updated_each}
use Rattle.psci_fw_spec.proofs.Granting.{updated_else}
use Rattle.psci_fw_spec.proofs.Wishes.{off_asks}
use Rattle.psci_fw_spec.proofs.Words.{◌+◌, ◌<◌, ◌==◌, ◌||◌, ◌∙◌, ◌≡◌, ◌≤◌, ◌⊎◌, AckValue, Act}
use Rattle.psci_fw_spec.proofs.Words.{activity_of, agrees, all_others, ap, AreAwake, AreValues}
use Rattle.psci_fw_spec.proofs.Words.{arith, AsksOn, Away, BoardValue, Bool, cases_eq, change}
use Rattle.psci_fw_spec.proofs.Words.{cleared, cond, core_of, cores, denied, effect_of, Enter}
use Rattle.psci_fw_spec.proofs.Words.{false, function_effect, FwReply, GoesOn, height}
use Rattle.psci_fw_spec.proofs.Words.{if◌then◌else◌, in_life, inl, inr, int_eq, is_expected}
use Rattle.psci_fw_spec.proofs.Words.{is_some, IsPhase, known, may_set, MessageValue, mode_asked}
use Rattle.psci_fw_spec.proofs.Words.{mode_effect, nat_tests, None, Off, Option, OsInitiated, Out}
use Rattle.psci_fw_spec.proofs.Words.{Outcome, Pending, Phase, Platform, PowerOn, refl, Regs}
use Rattle.psci_fw_spec.proofs.Words.{Request, request_of, Running, SetsMode, Smc, Some, Start}
use Rattle.psci_fw_spec.proofs.Words.{subst, suc, success, SuspendMode, sym, target, true}
use Rattle.psci_fw_spec.proofs.Words.{true≢false, up, updated, Values, with_arrival, with_pending}
use Rattle.psci_fw_spec.proofs.Words.{with_phase, zero, ℕ}
use Rattle.psci_abi.specs.declared.request.Request.TheVariants as requests
use Rattle.psci_messages.specs.declared.kind.Kind.TheVariants as kinds
use Rattle.psci_fw_spec.specs.declared.status.Status.TheVariants as statuses

-- Callers -----------------------------------------------------------------------------------------
-- What a running caller is answered, and what that leaves of it; whom an accepted CPU_ON asked on;
-- a core that enters and goes on, and the first start of all; and what messages name.

-- CPU_ONs that are accepted -------------------------------------------------------------------

-- A CPU_ON that was accepted: what was asked, and that its target was off.
pub record WasAsked (b : BoardValue) (v : Values) (r : Request) (asked : PowerOn) : Type 0 where
  pub word : ℕ
  pub request : r ≡ requests.CpuOn word asked.opening.address asked.opening.context
  pub core : core_of b word ≡ Some asked.message.core
  pub off : v.status (target asked) ≡ Off

-- a request that is no CPU_ON
abbrev IsOther : Request → Type 0
IsOther (requests.CpuOn word entry context) = ⊥
IsOther r = Unit {0}

module _ (b : BoardValue) (v : Values) (c : ℕ) where
  other_asks_none : (r : Request) (act : Act) (m : Option MessageValue) (caller : ℕ)
      (asked : PowerOn) → IsOther r → function_effect b c r act m ≡ AsksOn caller asked → ⊥
  other_asks_none r act m caller asked other e = grind arith

  asked_by : (caller : ℕ) (r : Request) (asked : PowerOn) → let o = outcome_of b v c r in
      function_effect b c r o.act o.message ≡ AsksOn caller asked → WasAsked b v r asked
  unfolding outcome_of target_of
  asked_by caller (requests.CpuOn word entry context) asked e =
      record { word = word; request = grind arith; core = grind arith; off = grind arith }
  asked_by caller r asked e =
      let o = outcome_of b v c r in
      absurd (other_asks_none r o.act o.message caller asked tt e)

  pub was_asked : (caller : ℕ) (regs : Regs) (asked : PowerOn)
      → effect_of b c (Smc regs) (answer b v c (Smc regs)) ≡ AsksOn caller asked
      → WasAsked b v (request_of regs) asked
  unfolding answer
  was_asked caller regs asked e = asked_by caller (request_of regs) asked (grind arith)

  -- Running callers -----------------------------------------------------------------------------

  same_phase : (k : ℕ) → v.phase c ≡ Running → (change b (GoesOn c) v).phase k ≡ v.phase k
  same_phase k runs = grind (arith, nat_tests)

  pub goes_on_same : v.phase c ≡ Running → change b (GoesOn c) v ≡ v
  goes_on_same runs = λ i. record v { phase = λ k. same_phase k runs i }

  pending_phase : (asked : PowerOn) (k : ℕ) → v.phase c ≡ Running
      → (change b (AsksOn c asked) v).phase k ≡ (with_pending b asked v).phase k
  pending_phase asked k runs = grind (arith, nat_tests)

  pub asks_on_same : (asked : PowerOn) → v.phase c ≡ Running
      → change b (AsksOn c asked) v ≡ with_pending b asked v
  asks_on_same asked runs =
      λ i. record (with_pending b asked v) { phase = λ k. pending_phase asked k runs i }

  life_stays : (r : Request) (act : Act) (m : Option MessageValue)
      → (change b (function_effect b c r act m) v).life ≡ v.life
  life_stays r act m = grind arith

  pub same_life : (regs : Regs) (reply : FwReply) → (after b c (Smc regs) reply v).life ≡ v.life
  unfolding after
  same_life regs reply = grind (arith, life_stays)

  -- Entries -------------------------------------------------------------------------------------

  pub enters_life : (s : Start) (o : Outcome) → (after b c (Enter s) (Out o) v).life ≡ s.life
  unfolding after
  enters_life s o = grind (arith, nat_tests)

  -- Messages ------------------------------------------------------------------------------------

  pub named : (r : Request) (m : MessageValue) → (outcome_of b v c r).message ≡ Some m
      → IsNamed b v c r m
  unfolding outcome_of target_of
  named (requests.CpuSuspend state entry context) m e = grind arith
  named (requests.CpuOn word entry context) m e = grind arith
  named (requests.SystemSuspend entry context) m e = grind arith
  named r m e = grind arith

  pub park_named : (s : Start) (m : MessageValue) → (enter_outcome b v c s).message ≡ Some m
      → (m.kind ≡ kinds.Down) × (m.core.number ≡ c) × (m.life ≡ s.life) × (m.number ≡ s.number)
  unfolding enter_outcome
  park_named s m e = grind (arith, nat_tests)

-- Changing ----------------------------------------------------------------------------------------

-- that a running or pending core goes on changes nothing
pub kept_on : (b : BoardValue) (w : Values) (c : ℕ) → (w.phase c ≡ Pending) ⊎ (w.phase c ≡ Running)
    → AreValues b w → AreValues b (with_phase c Running w)
kept_on b w c on are =
    same_phases b w (with_phase c Running w).phase (λ k. grind (arith, nat_tests)) are

-- Cores that come to be pending or to run -----------------------------------------------------

active_asks : (b : BoardValue) (p : Phase) (level : ℕ) → activity_of p ≡ Active
    → asks_at b p level ≡ 0
active_asks b p level e = grind arith

-- the path of a core is cleared, which is pending or runs then
kept_cleared : (b : BoardValue) (v w : Values) (t : ℕ) (p : Phase) → Known b → t < cores b
    → AreValues b v → activity_of p ≡ Active → ((k : ℕ) → w.known k ≤ b.starts)
    → ((k : ℕ) → agrees (w.status k) (updated v.phase t p k) ≡ true)
    → ((k : ℕ) → IsPhase b (updated v.phase t p k))
    → (AreAwake b v → (k : ℕ) → is_some (w.opening k) ≡ is_expected (updated v.phase t p k))
    → AreValues b (record w {
      halting = v.halting;
      mode = v.mode;
      phase = updated v.phase t p;
      granted = cleared b t v.granted;
    })
kept_cleared b v w t p known on are active knows agree is opens =
    let new : ℕ → Phase = updated v.phase t p in
    let here : activity_of (new t) ≡ Active = ap activity_of (updated_at v.phase t p) ∙ active in
    let changed : ChangedAt v.phase new t = updated_else v.phase t p in
    let bounded : AreBounded b new (cleared b t v.granted) =
    bounded_cleared b v.phase new v.granted t known.paths changed (bounded_of b v are) in
    record {
      known = knows;
      agree = agree;
      phase = is;
      nested = bounded.nested;
      asked = bounded.asked;
      awake = λ e. awake_from b _ known (opens (are.awake e))
          (granted_cleared b v.mode v.phase new v.granted t known.paths on changed
          (λ level. active_asks b (new t) level here) (ap is_core_away here)
          (granted_of b v known (are.awake e)));
    }

pub kept_pending : (b : BoardValue) (v : Values) (asked : PowerOn) → Known b
    → target asked < cores b → AreValues b v → AreValues b (with_pending b asked v)
kept_pending b v asked known on are =
    kept_cleared b v (with_pending b asked v) (target asked) Pending known on are refl are.known
    (both_updated (λ s p. agrees s p ≡ true) v.status v.phase (target asked) statuses.Pending
    Pending refl are.agree)
    (updated_each (λ k. IsPhase b) v.phase (target asked) Pending tt are.phase)
    (λ awake. both_updated (λ o p. is_some o ≡ is_expected p) v.opening v.phase (target asked)
    (Some asked.opening) Pending refl awake.opening)

pub known_arrived : (b : BoardValue) (f : Values) (c : ℕ) (s : Start) → s.number ≤ b.starts
    → AreValues b f → (k : ℕ) → updated f.known c s.number k ≤ b.starts
known_arrived b f c s within are =
    updated_each (λ k n. n ≤ b.starts) f.known c s.number within are.known

-- a core goes on that has entered
pub kept_entering : (b : BoardValue) (v : Values) (c : ℕ) (s : Start) → Known b → c < cores b
    → s.number ≤ b.starts → AreValues b (in_life b s.life v)
    → AreValues b (with_running c (with_arrival b c s v))
kept_entering b v c s known on within are =
    let f : Values = in_life b s.life v in
    kept_cleared b f (with_running c (with_arrival b c s v)) c Running known on are refl
    (known_arrived b f c s within are)
    (both_updated (λ t p. agrees t p ≡ true) f.status f.phase c statuses.On Running refl are.agree)
    (updated_each (λ k. IsPhase b) f.phase c Running tt are.phase)
    (λ awake. both_updated (λ o p. is_some o ≡ is_expected p) f.opening f.phase c None Running refl
    awake.opening)

-- Cores that stop -----------------------------------------------------------------------------

pub agree_away : (v : Values) (c : ℕ) → ((k : ℕ) → agrees (v.status k) (v.phase k) ≡ true)
    → (k : ℕ) → agrees (v.status k) ((with_phase c Away v).phase k) ≡ true
agree_away v c agree k = grind (arith, nat_tests, agree c, agree k)

pub phase_away : (b : BoardValue) (v : Values) (c : ℕ) → ((k : ℕ) → IsPhase b (v.phase k))
    → (k : ℕ) → IsPhase b ((with_phase c Away v).phase k)
phase_away b v c is k = grind (arith, nat_tests, is c, is k)

-- a core stops in a halting life, where these starts are known and this is granted
kept_ended : (b : BoardValue) (v w : Values) (c : ℕ) → AreValues b v
    → ((k : ℕ) → w.known k ≤ b.starts) → AreBounded b (with_phase c Away v).phase w.granted
    → AreValues b (record w {
      halting = true;
      status = v.status;
      phase = (with_phase c Away v).phase;
    })
kept_ended b v w c are knows bounded = record {
  known = knows;
  agree = agree_away v c are.agree;
  phase = phase_away b v c are.phase;
  nested = bounded.nested;
  asked = bounded.asked;
  awake = λ e. absurd (true≢false e);
}

pub kept_halting : (b : BoardValue) (v : Values) (c : ℕ) (m : MessageValue) → Known b
    → v.phase c ≡ Running → AreValues b v → AreValues b (with_halt m (with_phase c Away v))
kept_halting b v c m known runs are =
    kept_ended b v (with_halt m (with_phase c Away v)) c are are.known
    (bounded_left b v.phase (with_phase c Away v).phase v.granted c known.paths
    (left_else v c Away) (ran_asks b (v.phase c) runs) (bounded_of b v are))

pub kept_leaving : (b : BoardValue) (v : Values) (c : ℕ) → Known b → v.phase c ≡ Running
    → v.halting ≡ true → AreValues b v → AreValues b (with_phase c Away v)
kept_leaving b v c known runs halting are = subst (AreValues b)
    (λ i. record (with_phase c Away v) { halting = sym halting i })
    (kept_ended b v (with_phase c Away v) c are are.known
    (bounded_left b v.phase (with_phase c Away v).phase v.granted c known.paths
    (left_else v c Away) (ran_asks b (v.phase c) runs) (bounded_of b v are)))

-- a core stops that has entered in a halting life
pub kept_ceasing : (b : BoardValue) (v : Values) (c : ℕ) (s : Start) → Known b
    → s.number ≤ b.starts → (in_life b s.life v).halting ≡ true
    → AreValues b (in_life b s.life v)
    → AreValues b (with_phase c Away (with_arrival b c s v))
kept_ceasing b v c s known within halting are =
    let f : Values = in_life b s.life v in
    let w : Values = with_phase c Away (with_arrival b c s v) in
    subst (AreValues b) (λ i. record w { halting = sym halting i })
    (kept_ended b f w c are
    (known_arrived b f c s within are)
    (bounded_cleared b f.phase w.phase f.granted c known.paths
    (left_else (with_arrival b c s v) c Away) (bounded_of b f are)))

-- Acknowledgements ----------------------------------------------------------------------------

pub kept_acknowledged : (b : BoardValue) (v : Values) (a : AckValue) → AreValues b v
    → AreValues b (with_acknowledgement b a v)
unfolding view
kept_acknowledged b v a are = record {
  known = are.known;
  agree = λ k. grind (arith, nat_tests, are.agree k);
  phase = are.phase;
  nested = are.nested;
  asked = are.asked;
  awake = λ e. let w : AreAwake b v = are.awake e in record {
    opening = w.opening;
    own = w.own;
    away = w.away;
    least = w.least;
  };
}

-- Modes ---------------------------------------------------------------------------------------

-- The other cores -----------------------------------------------------------------------------

each_in : (p : ℕ → Bool) (a n k : ℕ) → list_all p (range_with_len a n) ≡ true → a ≤ k
    → k < a + n → p k ≡ true
each_in p a zero k e h i = absurd (omega arith)
each_in p a (suc n) k e h i = grind (arith, nat_tests, each_in p (a + 1) n k)

other_passes : (b : BoardValue) (c k : ℕ) (test : ℕ → Bool) → all_others b c test ≡ true
    → k < cores b → (k ≡ c → ⊥) → test k ≡ true
other_passes b c k test e h other =
    grind (arith, nat_tests, each_in (λ k. k == c || test k) 0 (cores b) k e)

-- Least asks ----------------------------------------------------------------------------------

-- with all others away, a domain above the running core was granted nothing, and each other one
-- power-down
least_alone : (b : BoardValue) (v : Values) (c : ℕ) → Known b → c < cores b → v.phase c ≡ Running
    → all_others b c (λ k. is_away (v.phase k)) ≡ true → AreBounded b v.phase v.granted
    → AreGranted b v.mode v.phase v.granted → (x level : ℕ) → x < cores b → level ≤ height b
    → IsLeast b v.phase x level (v.granted level (up b level x))
least_alone b v c known on runs others bounds equal x level i h =
    let asks : asks_at b (v.phase c) level ≡ 0 = grind (arith, asked_running b level) in
    elim (cases_eq (up b level x) (up b level c)) [
      | inl meets ↦
          let none : v.granted level (up b level x) ≡ 0 =
          ap (v.granted level) meets
          ∙ none_granted b v.phase v.granted c level known.paths bounds on
          (grind (arith, asked_running b 0)) h in
          subst (IsLeast b v.phase x level) (sym none) (record {
            most = omega arith;
            below = λ y k at. omega arith;
            above = λ n k each. omega (arith, each c on (sym meets), asks);
          })
      | inr beside ↦
          let off : IsAllOff b v.phase x level = λ y k at. grind (
            arith,
            other_passes b c y (λ z. is_away (v.phase z)) others k (apart b x y c level beside at),
          ) in
          subst (IsLeast b v.phase x level) (sym (equal.away x level i h off)) (record {
            most = omega arith;
            below = λ y k at. off_asks b (v.phase y) level h (off y k at);
            above = λ n k each. k;
          })
    ]

-- Modes ---------------------------------------------------------------------------------------

pub kept_mode : (b : BoardValue) (v : Values) (mode : SuspendMode) → Known b → AreValues b v
    → (v.halting ≡ false → mode ≡ Platform → (c level : ℕ) → c < cores b → level ≤ height b
    → IsLeast b v.phase c level (v.granted level (up b level c)))
    → AreValues b (with_mode mode v)
kept_mode b v mode known are least = record {
  known = are.known;
  agree = are.agree;
  phase = are.phase;
  nested = are.nested;
  asked = are.asked;
  awake = λ e.
      let g : AreGranted b v.mode v.phase v.granted = granted_of b v known (are.awake e) in
      awake_from b (with_mode mode v) known (are.awake e).opening (record {
        own = g.own;
        away = g.away;
        least = least e;
      });
}

mode_least : (b : BoardValue) (v : Values) (c : ℕ) (mode : SuspendMode) → Known b → c < cores b
    → v.phase c ≡ Running → AreValues b v → may_set b v c mode ≡ true → v.halting ≡ false
    → mode ≡ Platform → (x level : ℕ) → x < cores b → level ≤ height b
    → IsLeast b v.phase x level (v.granted level (up b level x))
mode_least b v c Platform known on runs are may awake platform =
    least_alone b v c known on runs may (bounded_of b v are)
    (granted_of b v known (are.awake awake))
mode_least b v c OsInitiated known on runs are may awake platform = absurd (cc platform)

-- a caller asked for this mode, if its number is that of one
pub kept_by_mode : (b : BoardValue) (v : Values) (c : ℕ) (mode : Option SuspendMode) → Known b
    → c < cores b → v.phase c ≡ Running → AreValues b v
    → AreValues b (change b (if int_eq (mode_asked b v c mode).0 success.0 then mode_effect c mode
    else GoesOn c) v)
kept_by_mode b v c None known on runs are = kept_on b v c (inr runs) are
kept_by_mode b v c (Some mode) known on runs are =
    by_tests (is_mode mode v.mode) (may_set b v c mode) refl refl
  where
    by_tests : (same may : Bool) → is_mode mode v.mode ≡ same → may_set b v c mode ≡ may
        → AreValues b (change b (if int_eq (cond same success (cond may success denied)).0 success.0
        then SetsMode c mode else GoesOn c) v)
    by_tests true may e f = kept_on b (with_mode mode v) c (inr runs) (kept_mode b v mode known are
        (λ awake platform. (granted_of b v known (are.awake awake)).least (grind arith)))
    by_tests false true e f = kept_on b (with_mode mode v) c (inr runs) (kept_mode b v mode known
        are (mode_least b v c mode known on runs are f))
    by_tests false false e f = kept_on b v c (inr runs) are
