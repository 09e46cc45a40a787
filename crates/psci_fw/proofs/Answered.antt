-- What a core is answered that stops or enters, and what is left.
use Rattle.std.specs.Option.{option_or}
use Rattle.std.proofs.Common.{◌&&◌, ◌+◌, ◌<◌, ◌==◌, ◌||◌, ◌∙◌, ◌≡◌, ◌≤◌, add-one, ap, arith}
use Rattle.std.proofs.Common.{Bool, cond, Err, false, length, List, nat_le, nat_lt, None, not}
use Rattle.std.proofs.Common.{Ok, Option, refl, Result, Some, suc, sym, true, zero, ℕ}
use Rattle.std.proofs.lemmas.Bool.{eqb-true}
use Rattle.std.proofs.lemmas.Bool.Decides.{nat_tests}
use Rattle.psci_abi.specs.Calls.{request_of}
use Rattle.psci_abi.specs.declared.registers.Regs.{Regs}
use Rattle.psci_abi.specs.declared.request.Request.{Request}
use Rattle.psci_abi.specs.declared.request.Request.TheVariants as requests
use Rattle.psci_board.specs.Board.{BoardValue, cores, height, may_enter, PathLaws, up}
use Rattle.psci_state.specs.PowerState.{deepest_of, is_deep}
use Rattle.psci_state.specs.Cores.{asks}
use Rattle.psci_messages.specs.Claim.{ClaimLaws, LastCoreLaws, least_wish, off_wish, own_wish}
use Rattle.psci_messages.specs.Claim.{platform_claims}
use Rattle.psci_messages.specs.Message.{AckValue}
use Rattle.psci_messages.specs.View.{PowerView}
use Rattle.psci_messages.specs.declared.kind.Kind.TheVariants.{Down}
use Rattle.psci_messages.specs.declared.osi.Osi.{Osi}
use Rattle.psci_messages.specs.declared.part.Part.{Part}
use Rattle.psci_messages.specs.declared.start.Start.{Start}
use Rattle.psci_messages.specs.declared.taken.Taken.{Taken}
use Rattle.psci_messages.specs.declared.taken.Taken.TheVariants.{Old, Used}
use Rattle.psci_fw_spec.specs.Effects.{after, change, enter_effect, function_effect, going_off}
use Rattle.psci_fw_spec.specs.Effects.{Rests, suspends}
use Rattle.psci_fw_spec.specs.Answer.{call_fault, enter_fault, enter_outcome, function_outcome}
use Rattle.psci_fw_spec.specs.Answer.{outcome_at, outcome_of, resumes}
use Rattle.psci_fw_spec.specs.Changes.{in_life, Rest, start_of_life, with_acknowledgement}
use Rattle.psci_fw_spec.specs.Changes.{with_arrival, with_claims, with_phase, with_rest}
use Rattle.psci_fw_spec.specs.PowerCalls.{all_others, ask_named, is_off_status, leaving_claims}
use Rattle.psci_fw_spec.specs.PowerCalls.{message_for, off_message, off_parts, stops, stops_with}
use Rattle.psci_fw_spec.specs.PowerCalls.{suspend_answer, suspend_claims, suspend_parts}
use Rattle.psci_fw_spec.specs.Invariant.{AreValues, ask, view}
use Rattle.psci_fw_spec.specs.Values.{cleared, granted_with, taken_by, Values}
use Rattle.psci_fw_spec.specs.Phases.{activity_of, Away, Running, Suspended, unless_pending}
use Rattle.psci_fw_spec.specs.declared.call.FwCall.TheVariants.{Enter, Smc}
use Rattle.psci_fw_spec.specs.declared.fault.FwFault.TheVariants.{NoCore, NoLife}
use Rattle.psci_fw_spec.specs.declared.mode.SuspendMode.{SuspendMode}
use Rattle.psci_fw_spec.specs.declared.mode.SuspendMode.TheVariants.{OsInitiated, Platform}
use Rattle.psci_fw_spec.specs.declared.opening.Opening.{Opening}
use Rattle.psci_fw_spec.specs.declared.outcome.Act.{Act}
use Rattle.psci_fw_spec.specs.declared.outcome.Act.TheVariants.{Resume, Stop}
use Rattle.psci_fw_spec.specs.declared.outcome.Outcome.{Outcome}
use Rattle.psci_fw_spec.specs.declared.reply.FwReply.TheVariants.{Out}
use Rattle.psci_fw_state.specs.Claims.{MayClaim}
use Rattle.psci_fw_state.proofs.Moved.{arrived, updated_same}
use Rattle.psci_fw.specs.Reactions.{FunctionAnswered, IsFresh, left_by_suspend}
use Rattle.psci_fw.specs.Ways.{way_by, way_on}
use Rattle.psci_fw.proofs.Refused.{first_fails, is_some, is_there, passed, second_fails}

-- Stopping --------------------------------------------------------------------------------------

-- the parts of a core that is off or going off now
pub leaving_off : (b now : BoardValue) (v w : Values) (c : ℕ) (parts : List Part) → now ≡ b
    → w ≡ with_phase c Away v → parts ≡ leaving_claims now (view now w) c w.mode
    → parts ≡ off_parts b v c
unfolding off_parts
leaving_off b now v w c parts at e is =
    rw (is, at, e) refl

pub left_may : (b now : BoardValue) (v w : Values) (c : ℕ) (parts whole : List Part) → now ≡ b
    → w ≡ with_phase c Away v → parts ≡ whole → MayClaim b c whole v.granted
    → MayClaim now c parts w.granted
left_may b now v w c parts whole at e same may = rw (at, e, same) may

-- what is answered to a core that stops so
pub parked : (b : BoardValue) (v w : Values) (c : ℕ) (o : Outcome) (parts : List Part)
    → w ≡ with_phase c Away v → parts ≡ off_parts b v c
    → o ≡ stops_with (message_for w Down c parts) → o ≡ stops_with (off_message b v c)
parked b v w c o parts e same is = rw (is, e, same) refl

rest_away : (v : Values) (c : ℕ) → with_rest c going_off v ≡ with_phase c Away v
rest_away v c = λ i. record (with_phase c Away v) {
  opening = λ k. updated_same v.opening c (option_or None (v.opening c)) refl k i;
}

pub off_answered : (b now : BoardValue) (v w u : Values) (c : ℕ) (o : Outcome)
    (parts : List Part) → now ≡ b → w ≡ with_phase c Away v
    → parts ≡ leaving_claims now (view now w) c w.mode
    → o ≡ stops_with (message_for w Down c parts)
    → u ≡ with_claims now (message_for w Down c parts) w
    → FunctionAnswered b v c requests.CpuOff o u
off_answered b now v w u c o parts at e is answer left =
    let same = leaving_off b now v w c parts at e is in
    let stopped = parked b v w c o parts e same answer in
    record {
      answer = stopped;
      after = rw (left, at, e, same, stopped)
          (ap (with_claims b (off_message b v c)) (sym (rest_away v c)));
    }

-- Suspended -------------------------------------------------------------------------------------

-- a running core that goes on changes nothing
pub goes_on : (v : Values) (c : ℕ) → v.phase c ≡ Running → v ≡ with_phase c Running v
goes_on v c e = sym (λ i. record v {
  phase = λ k. updated_same v.phase c (unless_pending (v.phase c) Running) (rw e refl) k i;
})

module _ (b : BoardValue) (v : Values) (c word : ℕ) (opening : Opening) (ask : List ℕ)
    (running : v.phase c ≡ Running) (named : ask_named b word ≡ Ok ask) where
  slept_after : (x : Result (List Part) Osi)
      → left_by_suspend b v c (suspends opening ask) (suspend_answer v c x).message
      ≡ change b (function_effect b c (requests.CpuSuspend word opening.address opening.context)
      (suspend_answer v c x).act (suspend_answer v c x).message) v
  slept_after (Ok parts) = rw named refl
  slept_after (Err reason) = goes_on v c running

  pub suspended_answered : (o : Outcome) (w : Values)
      → (is_deep ask && not (may_enter b opening.address)) ≡ false → (v.known c ≡ b.starts → ⊥)
      → o ≡ suspend_answer v c (suspend_parts b v c ask)
      → w ≡ left_by_suspend b v c (suspends opening ask) o.message
      → FunctionAnswered b v c (requests.CpuSuspend word opening.address opening.context) o w
  suspended_answered o w may low is left =
      let other : (v.known c == b.starts) ≡ false = grind arith in
      record {
        answer = rw (is, named, may, other) refl;
        after = rw (left, is) (slept_after (suspend_parts b v c ask));
      }

-- Entering --------------------------------------------------------------------------------------

in_life_again : (b : BoardValue) (life : ℕ) (v : Values)
    → in_life b life (in_life b life v) ≡ in_life b life v
in_life_again b life v = by (life == v.life) refl
  where
    by : (t : Bool) → (life == v.life) ≡ t
        → in_life b life (cond t v (start_of_life b life)) ≡ cond t v (start_of_life b life)
    by true e = rw e refl
    by false e = let same : (life == life) ≡ true = grind arith in rw same refl

arrival_again : (b : BoardValue) (v w : Values) (c : ℕ) (s : Start) → w ≡ in_life b s.life v
    → with_arrival b c s w ≡ with_arrival b c s v
arrival_again b v w c s e = rw e (ap (arrived b c s) (in_life_again b s.life v))

pub arrived_away : (b now : BoardValue) (v w u : Values) (c : ℕ) (s : Start) → now ≡ b
    → w ≡ in_life b s.life v → u ≡ with_phase c Away (with_arrival now c s w)
    → u ≡ with_phase c Away (with_arrival b c s v)
arrived_away b now v w u c s at e is =
    rw (is, at) (ap (with_phase c Away) (arrival_again b v w c s e))

pub fault_inside : (b : BoardValue) (v : Values) (c : ℕ) (s : Start)
    → enter_fault b v c s ≡ None → c < cores b
fault_inside b v c s e = is_there c (cores b) (passed (not (nat_lt c (cores b))) NoCore _ e).0

pub halted_outcome : (b : BoardValue) (v : Values) (c : ℕ) (s : Start)
    → (in_life b s.life v).halting ≡ true → stops ≡ enter_outcome b v c s
unfolding enter_outcome
halted_outcome b v c s e = rw e refl

-- Where a core goes on --------------------------------------------------------------------------

way_is : (b : BoardValue) (found then : Values) (c : ℕ) (s : Start) (act : Act) (o : Option Opening)
    → way_by found c s o ≡ Some act
    → record { act = act; message = None } ≡ outcome_at b found then c s o
way_is b found then c s act (Some o) e = cc
way_is b found then c s act None e = by (resumes found c s) e
  where
    by : (t : Bool) → ◌≡◌ {A = Option Act} (cond t (Some Resume) None) (Some act)
        → ◌≡◌ {A = Outcome} (record { act = act; message = None })
        (cond t (record { act = Resume; message = None }) (stops_with (off_message b then c)))
    by true f = cc
    by false f = cc

pub way_outcome : (b : BoardValue) (v : Values) (c : ℕ) (s : Start) (act : Act)
    → (in_life b s.life v).halting ≡ false → way_on (in_life b s.life v) c s ≡ Some act
    → record { act = act; message = None } ≡ enter_outcome b v c s
unfolding enter_outcome
way_outcome b v c s act awake e =
    let found = in_life b s.life v in
    way_is b found (with_arrival b c s v) c s act (found.opening c) e
    ∙ sym (ap (λ (t : Bool).
    cond t stops (outcome_at b found (with_arrival b c s v) c s (found.opening c))) awake)

no_way_by : (found : Values) (c : ℕ) (s : Start) (o : Option Opening) → way_by found c s o ≡ None
    → (o ≡ None) × (resumes found c s ≡ false)
no_way_by found c s (Some o) e = cc
no_way_by found c s None e = (refl, by (resumes found c s) e)
  where
    by : (t : Bool) → ◌≡◌ {A = Option Act} (cond t (Some Resume) None) None → t ≡ false
    by true f = cc
    by false f = refl

-- a core that has no way on has no opening, and does not resume
pub no_way : (found : Values) (c : ℕ) (s : Start) → way_on found c s ≡ None
    → (found.opening c ≡ None) × (resumes found c s ≡ false)
no_way found c s e = no_way_by found c s (found.opening c) e

-- A firmware that no core has entered, which is as at the start of a life -------------------------

pub first_fresh : (b : BoardValue) → IsFresh b (start_of_life b 0)
first_fresh b = record { same = λ e. refl }

-- Another life ----------------------------------------------------------------------------------

begun_by : (b : BoardValue) (life : ℕ) (t : Bool) → (life == 0) ≡ t
    → record (start_of_life b 0) { life = life }
    ≡ cond t (start_of_life b 0) (start_of_life b life)
begun_by b life true e = ap (λ (l : ℕ). start_of_life b l) (eqb-true life 0 e)
begun_by b life false e = refl

pub begun_fresh : (b : BoardValue) (v : Values) (life : ℕ) → v.life ≡ 0 → IsFresh b v
    → record v { life = life } ≡ in_life b life v
begun_fresh b v life e fresh =
    rw (fresh.same e) (begun_by b life (life == 0) refl)

-- In a life -------------------------------------------------------------------------------------

lives_fresh : (b : BoardValue) (v : Values) (life : ℕ) → v.life ≡ life → 0 < life → IsFresh b v
lives_fresh b v life e some = record { same = λ none. absurd (omega arith) }

-- a caller that is not refused has a life
caller_lives : (b : BoardValue) (v : Values) (c : ℕ) → call_fault b v c ≡ None → 0 < v.life
caller_lives b v c e =
    is_some v.life
    (passed (v.life == 0) NoLife _ (passed (not (nat_lt c (cores b))) NoCore _ e).1).0

pub call_fresh : (b : BoardValue) (v : Values) (c : ℕ) (regs : Regs) (o : Outcome)
    → (after b c (Smc regs) (Out o) v).life ≡ v.life → call_fault b v c ≡ None
    → IsFresh b (change b (function_effect b c (request_of regs) o.act o.message) v)
unfolding after
call_fresh b v c regs o same e = lives_fresh b _ v.life same (caller_lives b v c e)

-- a start that is not refused has a life
start_lives : (b : BoardValue) (v : Values) (c : ℕ) (s : Start) → enter_fault b v c s ≡ None
    → 0 < s.life
start_lives b v c s e =
    is_some s.life (first_fails (s.life == 0) _
    (passed (s.life == 0 || nat_lt b.lives s.life) NoLife _
    (passed (not (nat_lt c (cores b))) NoCore _ e).1).0)

pub enter_fresh : (b : BoardValue) (v : Values) (c : ℕ) (s : Start) (o : Outcome)
    → (after b c (Enter s) (Out o) v).life ≡ s.life → enter_fault b v c s ≡ None
    → IsFresh b (change b (enter_effect c s o.act o.message) v)
unfolding after
enter_fresh b v c s o same e = lives_fresh b _ s.life same (start_lives b v c s e)

-- no message waits before any core has entered
pub take_fresh : (b : BoardValue) (v : Values) (a : AckValue) → IsFresh b v → taken_by v a ≡ Used
    → IsFresh b (with_acknowledgement b a v)
take_fresh b v a fresh used = record {
  same = λ none.
      let old : taken_by v a ≡ Old = ap (λ (x : Values). taken_by x a) (fresh.same none) in
      let no : ◌≡◌ {A = Taken} Old Used = sym old ∙ used in
      absurd (cc);
}

-- The life of a firmware, which is none beyond the last one of its board --------------------------

pub not_beyond : (life lives : ℕ) → nat_lt lives life ≡ false → life ≤ lives
not_beyond life lives e = grind (arith, nat_tests, e)

-- a call leaves the life as it was
pub call_lives : (b : BoardValue) (v : Values) (c : ℕ) (regs : Regs) (o : Outcome)
    → (after b c (Smc regs) (Out o) v).life ≡ v.life → v.life ≤ b.lives
    → (change b (function_effect b c (request_of regs) o.act o.message) v).life ≤ b.lives
unfolding after
call_lives b v c regs o same low = rw same low

-- a start that is not refused has a life of the board
start_on_board : (b : BoardValue) (v : Values) (c : ℕ) (s : Start) → enter_fault b v c s ≡ None
    → s.life ≤ b.lives
start_on_board b v c s e =
    not_beyond s.life b.lives (second_fails (s.life == 0) _
    (passed (s.life == 0 || nat_lt b.lives s.life) NoLife _
    (passed (not (nat_lt c (cores b))) NoCore _ e).1).0)

pub enter_lives : (b : BoardValue) (v : Values) (c : ℕ) (s : Start) (o : Outcome)
    → (after b c (Enter s) (Out o) v).life ≡ s.life → enter_fault b v c s ≡ None
    → (change b (enter_effect c s o.act o.message) v).life ≤ b.lives
unfolding after
enter_lives b v c s o same e = rw same (start_on_board b v c s e)

-- Stopping ----------------------------------------------------------------------------------------
-- The claims of cores that stop may be granted: nothing is granted on their paths, and what the
-- values then grant falls upwards.

-- Nothing is granted on the path ----------------------------------------------------------------

-- a running core asks nothing of itself
asks_none : (b : BoardValue) (v : Values) (c : ℕ) → v.phase c ≡ Running → ask b v c 0 ≡ 0
asks_none b v c e = rw e (by (nat_le 0 (height b)))
  where
    by : (t : Bool) → ◌≡◌ {A = ℕ} (cond t (asks (activity_of Running) 0) 0) 0
    by true = refl
    by false = refl

pub running_free : (b : BoardValue) (v : Values) (c : ℕ) → PathLaws b → c < cores b → AreValues b v
    → v.phase c ≡ Running → (level : ℕ) → level ≤ height b → v.granted level (up b level c) ≡ 0
running_free b v c paths inside are running zero h =
    ap (v.granted 0) (paths.core c) ∙ omega (arith, are.asked c inside, asks_none b v c running)
running_free b v c paths inside are running (suc level) h =
    let below = running_free b v c paths inside are running level (omega arith) in
    let step : v.granted (suc level) (up b (suc level) c) ≤ v.granted level (up b level c) =
    rw add-one at (are.nested c level inside (omega arith)) in
    omega arith

pub arrived_free : (b : BoardValue) (c : ℕ) (granted : ℕ → ℕ → ℕ) (level : ℕ)
    → cleared b c granted level (up b level c) ≡ 0
arrived_free b c granted level =
    let on : (up b level c == up b level c) ≡ true = grind arith in rw on refl

-- Claims have a part for each level at most -----------------------------------------------------

few_leaving : (b : BoardValue) (w : PowerView) (c : ℕ) (mode : SuspendMode)
    → ((wanted : ℕ → ℕ) → ClaimLaws b w c wanted) → length
    (leaving_claims b w c mode) ≤ height b + 1
few_leaving b w c Platform laws = (laws (least_wish b w c)).few
few_leaving b w c OsInitiated laws = (laws (off_wish b w c)).few

pub few_off : (b : BoardValue) (v : Values) (c : ℕ)
    → ((w : PowerView) (wanted : ℕ → ℕ) → ClaimLaws b w c wanted)
    → length (off_parts b v c) ≤ height b + 1
unfolding off_parts
few_off b v c laws = few_leaving b _ c v.mode (laws _)

few_by : (b : BoardValue) (v : Values) (c : ℕ) (asked : List ℕ) (mode : SuspendMode)
    (parts : List Part) → ((w : PowerView) (wanted : ℕ → ℕ) → ClaimLaws b w c wanted)
    → LastCoreLaws b (view b v) c asked → suspend_claims b v c asked mode ≡ Ok parts
    → length parts ≤ height b + 1
few_by b v c asked Platform parts laws last e =
    let w : PowerView = view b (with_phase c (Suspended asked) v) in
    let same : platform_claims b w c ≡ parts = cc in
    omega (arith, ap length same, (laws w (least_wish b w c)).few)
few_by b v c asked OsInitiated parts laws last e =
    omega (arith, ap length (last.parts parts e), (laws (view b v) (own_wish asked)).few)

pub few_suspended : (b : BoardValue) (v : Values) (c : ℕ) (asked : List ℕ) (parts : List Part)
    → ((w : PowerView) (wanted : ℕ → ℕ) → ClaimLaws b w c wanted)
    → LastCoreLaws b (view b v) c asked → suspend_parts b v c asked ≡ Ok parts
    → length parts ≤ height b + 1
unfolding suspend_parts
few_suspended b v c asked parts laws last e = few_by b v c asked v.mode parts laws last e

-- What is granted then --------------------------------------------------------------------------

-- what a function that stops its caller leaves is nested
pub nested_after : (b : BoardValue) (v : Values) (c : ℕ) (r : Request) (o : Outcome) (rest : Rest)
    (parts : List Part) → AreValues b (change b (function_effect b c r o.act o.message) v)
    → o ≡ stops_with (message_for v Down c parts)
    → function_effect b c r Stop (Some (message_for v Down c parts))
    ≡ Rests c rest (message_for v Down c parts)
    → (core level : ℕ) → core < cores b → level < height b
    → granted_with b c parts v.granted (level + 1) (up b (level + 1) core)
    ≤ granted_with b c parts v.granted level (up b level core)
nested_after b v c r o rest parts are is effect = (rw (is, effect) at are).nested

-- Outcomes --------------------------------------------------------------------------------------

awake_outcome : (b : BoardValue) (v : Values) (c : ℕ) (r : Request) → v.halting ≡ false
    → outcome_of b v c r ≡ function_outcome b v c r
unfolding outcome_of
awake_outcome b v c r e = rw e refl

pub off_outcome : (b : BoardValue) (v : Values) (c : ℕ) → v.halting ≡ false
    → outcome_of b v c requests.CpuOff ≡ stops_with (message_for v Down c (off_parts b v c))
off_outcome b v c e = awake_outcome b v c requests.CpuOff e

other_number : (x y : ℕ) → (x ≡ y → ⊥) → (x == y) ≡ false
other_number x y n = grind arith

pub suspend_outcome : (b : BoardValue) (v : Values) (c word entry context : ℕ) (asked : List ℕ)
    (parts : List Part) → v.halting ≡ false → ask_named b word ≡ Ok asked
    → (is_deep asked && not (may_enter b entry)) ≡ false → (v.known c ≡ b.starts → ⊥)
    → suspend_parts b v c asked ≡ Ok parts
    → outcome_of b v c (requests.CpuSuspend word entry context)
    ≡ stops_with (message_for v Down c parts)
suspend_outcome b v c word entry context asked parts e named may low is =
    let other = other_number (v.known c) b.starts low in
    awake_outcome b v c (requests.CpuSuspend word entry context) e
    ∙ (rw (named, may, other) (ap (suspend_answer v c) is))

pub system_outcome : (b : BoardValue) (v : Values) (c entry context : ℕ) (parts : List Part)
    → v.halting ≡ false → may_enter b entry ≡ true
    → all_others b c (λ k. is_off_status (v.status k)) ≡ true → (v.known c ≡ b.starts → ⊥)
    → suspend_parts b v c (deepest_of (height b)) ≡ Ok parts
    → outcome_of b v c (requests.SystemSuspend entry context)
    ≡ stops_with (message_for v Down c parts)
system_outcome b v c entry context parts e may off low is =
    let other = other_number (v.known c) b.starts low in
    awake_outcome b v c (requests.SystemSuspend entry context) e
    ∙ (rw (may, off, other) (ap (suspend_answer v c) is))

-- Parked ----------------------------------------------------------------------------------------

pub park_outcome : (b : BoardValue) (v : Values) (c : ℕ) (s : Start)
    → (in_life b s.life v).halting ≡ false → (in_life b s.life v).opening c ≡ None
    → resumes (in_life b s.life v) c s ≡ false
    → enter_outcome b v c s ≡ stops_with (off_message b (with_arrival b c s v) c)
unfolding enter_outcome
park_outcome b v c s awake none parks =
    rw (awake, none, parks) refl

pub nested_parked : (b : BoardValue) (v : Values) (c : ℕ) (s : Start) (o : Outcome)
    → AreValues b (change b (enter_effect c s o.act o.message) v)
    → o ≡ stops_with (off_message b (with_arrival b c s v) c)
    → (core level : ℕ) → core < cores b → level < height b
    → granted_with b c (off_parts b (with_arrival b c s v) c) (with_arrival b c s v).granted
    (level + 1) (up b (level + 1) core)
    ≤ granted_with b c (off_parts b (with_arrival b c s v) c) (with_arrival b c s v).granted level
    (up b level core)
nested_parked b v c s o are is = (rw is at are).nested
