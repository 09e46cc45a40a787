-- What holds of the values at the start of a life; and what a core is answered that enters leaves
-- values such as the firmware keeps, and so does every answer.
use Rattle.std.specs.Prelude.{Err}
use Rattle.psci_state.specs.PowerState.{highest_of}
use Rattle.psci_fw_spec.specs.Effects.{after, going_off, suspends}
use Rattle.psci_fw_spec.specs.Answer.{answer, enter_fault, enter_outcome}
use Rattle.psci_fw_spec.specs.PowerCalls.{target_of}
use Rattle.psci_fw_spec.specs.History.{values_of}
use Rattle.psci_fw_spec.specs.Changes.{first_phase}
use Rattle.psci_fw_spec.proofs.Granting.{alone, AreGranted, asked_away, asked_running, asks_at}
use Rattle.psci_fw_spec.proofs.Granting.{awake_from, IsLeast, joined, Known, parked_left, ran_asks}
use Rattle.psci_fw_spec.proofs.Granting.{ran_left, updated_at, updated_else}
use Rattle.psci_fw_spec.proofs.Changing.{kept_acknowledged, kept_by_mode, kept_ceasing}
use Rattle.psci_fw_spec.proofs.Changing.{kept_entering, kept_halting, kept_leaving, kept_on}
use Rattle.psci_fw_spec.proofs.Changing.{kept_pending}
use Rattle.psci_fw_spec.proofs.Endings.{outcome_ends, reset2_ends, suspend_ends, system_ends}
use Rattle.psci_fw_spec.proofs.Stopping.{arrived_held, held_of, kept_parking, kept_resting}
use Rattle.psci_fw_spec.proofs.Stopping.{off_held, suspend_held, values_more, values_none}
use Rattle.psci_fw_spec.proofs.Words.{[], ◌+◌, ◌<◌, ◌==◌, ◌∙◌, ◌∷◌, ◌≡◌, ◌≤◌, ◌⊎◌, ap, AreValues}
use Rattle.psci_fw_spec.proofs.Words.{arith, ask_named, Away, BoardValue, Bool, call_fault}
use Rattle.psci_fw_spec.proofs.Words.{cases_eq, change, Code, cond, Core, core_of, cores}
use Rattle.psci_fw_spec.proofs.Words.{deepest_of, Effect, effect_of, Enter, enter_effect, Enters}
use Rattle.psci_fw_spec.proofs.Words.{false, Fault, first_granted, function_effect}
use Rattle.psci_fw_spec.proofs.Words.{function_outcome, FwCall, FwExchange, FwFault, FwReply}
use Rattle.psci_fw_spec.proofs.Words.{GoesOn, height, in_life, inl, inr, is_deep, is_some, IsAsk}
use Rattle.psci_fw_spec.proofs.Words.{IsLegal, IsPhase, known, life, List, message_for, mode_of}
use Rattle.psci_fw_spec.proofs.Words.{nat_tests, None, off_message, Ok, Opening, Option, Out}
use Rattle.psci_fw_spec.proofs.Words.{Outcome, outcome_of, Parks, Part, Pending, PowerOn, refl}
use Rattle.psci_fw_spec.proofs.Words.{reply_or, Request, request_of, rest_named, Rests, Result}
use Rattle.psci_fw_spec.proofs.Words.{Running, Smc, Some, Start, start_of_life, start_outcome}
use Rattle.psci_fw_spec.proofs.Words.{StopsAtOnce, subst, suspend_asked, suspend_parts, Suspended}
use Rattle.psci_fw_spec.proofs.Words.{sym, system_reset2, system_suspend, Take, true, true≢false}
use Rattle.psci_fw_spec.proofs.Words.{up, updated, Values, with_arrival, with_pending, ℕ}
use Rattle.psci_abi.specs.declared.request.Request.TheVariants as requests
use Rattle.psci_messages.specs.declared.kind.Kind.TheVariants as kinds

-- What a function answers a running caller leaves values such as the firmware keeps ---------------

-- a running caller, in a life that is not halting
pub record IsCalling (b : BoardValue) (v : Values) (c : ℕ) : Type 0 where
  pub known : Known b
  pub on : c < cores b
  pub are : AreValues b v
  pub runs : v.phase c ≡ Running
  pub awake : v.halting ≡ false

-- values after an effect
abbrev Kept : BoardValue → Values → Effect → Type 0
Kept b v e = AreValues b (change b e v)

goes_on : (b : BoardValue) (v : Values) (c : ℕ) → IsCalling b v c → Kept b v (GoesOn c)
goes_on b v c is = kept_on b v c (inr is.runs) is.are

-- Suspending ----------------------------------------------------------------------------------

opens_where_deep : (o : Opening) (t : Bool) → is_some (cond t (Some o) None) ≡ t
opens_where_deep o t = grind arith

rests_kept : (b : BoardValue) (v : Values) (c : ℕ) (o : Opening) (ask : List ℕ)
    (parts : List Part) → IsCalling b v c → IsPhase b (Suspended ask)
    → suspend_parts b v c ask ≡ Ok parts
    → Kept b v (Rests c (suspends o ask) (message_for v kinds.Down c parts))
rests_kept b v c o ask parts is asks e =
    kept_resting b v c (suspends o ask) (message_for v kinds.Down c parts) is.known is.runs
    is.awake is.are refl asks
    (opens_where_deep o (is_deep ask))
    (suspend_held b v c ask parts is.known is.on is.runs asks.0 is.are.phase
    (held_of b v is.known is.are is.awake) e)

suspend_kept : (b : BoardValue) (v : Values) (c state entry_point context : ℕ)
    → IsCalling b v c
    → ((ask : List ℕ) → ask_named b state ≡ Ok ask → IsPhase b (Suspended ask))
    → let o = suspend_asked b v c entry_point (ask_named b state) in
    Kept b v (function_effect b c (requests.CpuSuspend state entry_point context) o.act o.message)
suspend_kept b v c state entry_point context is asks =
    suspend_ends (λ o. Kept b v (function_effect b c request o.act o.message)) b v c entry_point
    (ask_named b state) (λ code. goes_on b v c is)
    (λ ask parts named made.
    subst (λ r. Kept b v (Rests c (rest_named opening r) (message_for v kinds.Down c parts)))
    (sym named) (rests_kept b v c opening ask parts is (asks ask named) made))
  where
    request : Request
    request = requests.CpuSuspend state entry_point context

    opening : Opening
    opening = record { address = entry_point; context = context }

-- power-down of all levels is an ask of each board
pub deepest_is : (h : ℕ) → h ≤ 3 → IsAsk (deepest_of h) × (highest_of (deepest_of h) ≤ h)
deepest_is h i = grind arith

suspend_all_kept : (b : BoardValue) (v : Values) (c entry_point context : ℕ) → IsCalling b v c
    → IsPhase b (Suspended (deepest_of (height b)))
    → let o = system_suspend b v c entry_point in
    Kept b v (function_effect b c (requests.SystemSuspend entry_point context) o.act o.message)
suspend_all_kept b v c entry_point context is asks =
    system_ends (λ o. Kept b v (function_effect b c request o.act o.message)) b v c entry_point
    (λ code. goes_on b v c is)
    (λ parts made. rests_kept b v c (record { address = entry_point; context = context })
    (deepest_of (height b)) parts is asks made)
  where
    request : Request
    request = requests.SystemSuspend entry_point context

-- CPU_ON --------------------------------------------------------------------------------------

core_asked : (b : BoardValue) (v : Values) (word entry_point : ℕ) (t : Core)
    → target_of b v word entry_point ≡ Ok t → core_of b word ≡ Some t
unfolding target_of
core_asked b v word entry_point t e = grind arith

-- the target of a CPU_ON that is accepted is a core of the board
target_within : (b : BoardValue) (v : Values) (word entry_point : ℕ) (t : Core) → Known b
    → target_of b v word entry_point ≡ Ok t → t.number < cores b
target_within b v word entry_point t known e =
    known.words.core word t (core_asked b v word entry_point t e)

-- the caller runs on, unless it asked itself on
runs_on : (v : Values) (c t : ℕ) → v.phase c ≡ Running
    → (updated v.phase t Pending c ≡ Pending) ⊎ (updated v.phase t Pending c ≡ Running)
runs_on v c t runs = grind arith

on_kept : (b : BoardValue) (v : Values) (c word entry_point context : ℕ)
    (t : Result Core Code) → IsCalling b v c → target_of b v word entry_point ≡ t
    → let o = start_outcome v t in
    Kept b v (function_effect b c (requests.CpuOn word entry_point context) o.act o.message)
on_kept b v c word entry_point context (Err code) is e = goes_on b v c is
on_kept b v c word entry_point context (Ok t) is e =
    let asked : PowerOn = record {
      message = message_for v kinds.Start t.number [];
      opening = record { address = entry_point; context = context };
    } in
    kept_on b (with_pending b asked v) c (runs_on v c t.number is.runs)
    (kept_pending b v asked is.known (target_within b v word entry_point t is.known e) is.are)

-- SYSTEM_RESET2 -------------------------------------------------------------------------------

reset2_kept : (b : BoardValue) (v : Values) (c reset_type cookie : ℕ) → IsCalling b v c
    → let o = system_reset2 v c reset_type in
    Kept b v (function_effect b c (requests.SystemReset2 reset_type cookie) o.act o.message)
reset2_kept b v c reset_type cookie is =
    reset2_ends (λ o. Kept b v (function_effect b c request o.act o.message)) v c reset_type
    (λ code. goes_on b v c is)
    (kept_halting b v c (message_for v kinds.Reset c []) is.known is.runs is.are)
  where
    request : Request
    request = requests.SystemReset2 reset_type cookie

-- All functions -------------------------------------------------------------------------------

off_kept : (b : BoardValue) (v : Values) (c : ℕ) → IsCalling b v c
    → Kept b v (Rests c going_off (off_message b v c))
off_kept b v c is =
    kept_resting b v c going_off (off_message b v c) is.known is.runs is.awake is.are refl tt refl
    (off_held b v v.phase c is.known is.on (ran_left (v.phase c) Away is.runs)
    (λ x other. refl) is.are.phase
    (ran_asks b (v.phase c) is.runs)
    (held_of b v is.known is.are is.awake))

-- what the words of a power state ask
abbrev pub Worded : BoardValue → Type 0
Worded b = (word : ℕ) (ask : List ℕ) → ask_named b word ≡ Ok ask → IsPhase b (Suspended ask)

function_kept : (b : BoardValue) (v : Values) (c : ℕ) (r : Request) → IsCalling b v c → Worded b
    → IsPhase b (Suspended (deepest_of (height b))) → let o = function_outcome b v c r in
    Kept b v (function_effect b c r o.act o.message)
function_kept b v c (requests.CpuSuspend state entry_point context) is asks all =
    suspend_kept b v c state entry_point context is (asks state)
function_kept b v c requests.CpuOff is asks all = off_kept b v c is
function_kept b v c (requests.CpuOn word entry_point context) is asks all =
    on_kept b v c word entry_point context (target_of b v word entry_point) is refl
function_kept b v c requests.SystemOff is asks all =
    kept_halting b v c (message_for v kinds.Off c []) is.known is.runs is.are
function_kept b v c requests.SystemReset is asks all =
    kept_halting b v c (message_for v kinds.Reset c []) is.known is.runs is.are
function_kept b v c (requests.SystemSuspend entry_point context) is asks all =
    suspend_all_kept b v c entry_point context is all
function_kept b v c (requests.SetSuspendMode number) is asks all =
    kept_by_mode b v c (mode_of number) is.known is.on is.runs is.are
function_kept b v c (requests.SystemReset2 reset_type cookie) is asks all =
    reset2_kept b v c reset_type cookie is
function_kept b v c r is asks all = goes_on b v c is

pub kept_function : (b : BoardValue) (v : Values) (c : ℕ) (r : Request) → Known b → c < cores b
    → AreValues b v → v.phase c ≡ Running → Worded b
    → IsPhase b (Suspended (deepest_of (height b))) → let o = outcome_of b v c r in
    AreValues b (change b (function_effect b c r o.act o.message) v)
kept_function b v c r known on are runs asks all =
    outcome_ends (λ o. AreValues b (change b (function_effect b c r o.act o.message) v)) b v c r
    (λ halts. kept_leaving b v c known runs halts are)
    (λ awake. function_kept b v c r
    (record { known = known; on = on; are = are; runs = runs; awake = awake }) asks all)

-- Entered -----------------------------------------------------------------------------------------

-- The start of a life -------------------------------------------------------------------------

-- Cores ---------------------------------------------------------------------------------------

first_away : (c : ℕ) → (c ≡ 0 → ⊥) → first_phase c ≡ Away
first_away c other = grind (arith, nat_tests)

-- Granted depths ------------------------------------------------------------------------------

-- nothing on the boot path, power-down elsewhere
first_at : (b : BoardValue) (c level : ℕ) → Known b → c < cores b → level ≤ height b
    → first_granted b level (up b level c) ≡ cond (up b level c == up b level 0) 0 3
first_at b c level known on h =
    grind (arith, nat_tests, known.paths.inside c level on h)

on_path : (b : BoardValue) (c level : ℕ) → Known b → c < cores b → level ≤ height b
    → up b level c ≡ up b level 0 → first_granted b level (up b level c) ≡ 0
on_path b c level known on h at = grind (arith, nat_tests, first_at b c level known on h)

off_path : (b : BoardValue) (c level : ℕ) → Known b → c < cores b → level ≤ height b
    → (up b level c ≡ up b level 0 → ⊥) → first_granted b level (up b level c) ≡ 3
off_path b c level known on h beside = grind (arith, nat_tests, first_at b c level known on h)

first_nested : (b : BoardValue) (c level : ℕ) → Known b → c < cores b → level < height b
    → first_granted b (level + 1) (up b (level + 1) c) ≤ first_granted b level (up b level c)
first_nested b c level known on h = grind (
  arith,
  nat_tests,
  first_at b c level known on,
  first_at b c (level + 1) known on,
  joined b c 0 level known.paths,
)

first_own : (b : BoardValue) (c : ℕ) → Known b → c < cores b
    → first_granted b 0 c ≡ asks_at b (first_phase c) 0
first_own b c known on = grind (
  arith,
  nat_tests,
  first_at b c 0 known on,
  known.paths.core c,
  alone b c 0 known.paths,
)

first_least : (b : BoardValue) (c level : ℕ) → Known b → c < cores b → level ≤ height b
    → IsLeast b first_phase c level (first_granted b level (up b level c))
first_least b c level known on h = elim (cases_eq (up b level c) (up b level 0)) [
  | inl meets ↦ subst (IsLeast b first_phase c level)
      (sym (on_path b c level known on h meets)) (record {
        most = omega arith;
        below = λ x k at. omega arith;
        above = λ n k each. omega (arith, each 0 (omega arith) (sym meets), asked_running b level);
      })
  | inr beside ↦ subst (IsLeast b first_phase c level)
      (sym (off_path b c level known on h beside)) (record {
        most = omega arith;
        below = λ x k at.
            omega (
              arith,
              ap (λ p. asks_at b p level) (first_away x (λ same. beside (cc))),
              asked_away b level h,
            );
        above = λ n k each. k;
      })
]

first_granted_so : (b : BoardValue) (life : ℕ) → Known b → let v = start_of_life b life in
    AreGranted b v.mode v.phase v.granted
first_granted_so b life known = record {
  own = λ c on. first_own b c known on;
  away = λ c level on h all. off_path b c level known on h
      (λ meets. true≢false (sym (all 0 (omega arith) (sym meets))));
  least = λ m c level on h. first_least b c level known on h;
}

pub are_first : (b : BoardValue) (life : ℕ) → Known b → AreValues b (start_of_life b life)
are_first b life known = record {
  known = λ c. omega arith;
  agree = λ c. grind arith;
  phase = λ c. grind arith;
  nested = λ c level on h. first_nested b c level known on h;
  asked = λ c on. omega (arith, first_own b c known on);
  awake = λ awake. awake_from b (start_of_life b life) known (λ c. grind arith)
      (first_granted_so b life known);
}

pub are_in_life : (b : BoardValue) (life : ℕ) (v : Values) → Known b → AreValues b v
    → AreValues b (in_life b life v)
are_in_life b life v known are = grind (arith, are_first b life known)

-- Who may enter -------------------------------------------------------------------------------

may_enter : (b : BoardValue) (v : Values) (c : ℕ) (s : Start) → enter_fault b v c s ≡ None
    → (c < cores b) × (s.number ≤ b.starts)
may_enter b v c s e = grind (arith, nat_tests)

-- Entries -------------------------------------------------------------------------------------

parks_kept : (b : BoardValue) (v : Values) (c : ℕ) (s : Start) → Known b → c < cores b
    → s.number ≤ b.starts
    → (in_life b s.life v).halting ≡ false → (in_life b s.life v).opening c ≡ None
    → AreValues b (in_life b s.life v)
    → AreValues b (change b (Parks c s (off_message b (with_arrival b c s v) c)) v)
parks_kept b v c s known on within awake none are =
    let f : Values = in_life b s.life v in
    let w : Values = with_arrival b c s v in
    kept_parking b v c s (off_message b w c) known within awake none are
    (off_held b w (updated f.phase c Running) c known on
    (parked_left (f.phase c) (f.opening c) ((are.awake awake).opening c) none)
    (λ x other. sym (updated_else f.phase c Running x other)) are.phase
    (ran_asks b _ (updated_at f.phase c Running))
    (arrived_held b v c s known on awake are))

-- an entry stops at once, goes on, or parks
enter_ends : (P : Effect → Type 0) (b : BoardValue) (v : Values) (c : ℕ) (s : Start)
    → ((in_life b s.life v).halting ≡ true → P (StopsAtOnce c s)) → P (Enters c s)
    → ((in_life b s.life v).halting ≡ false → (in_life b s.life v).opening c ≡ None
    → P (Parks c s (off_message b (with_arrival b c s v) c)))
    → let o = enter_outcome b v c s in P (enter_effect c s o.act o.message)
unfolding enter_outcome
enter_ends P b v c s stopped enters parks = grind arith

pub kept_enter : (b : BoardValue) (v : Values) (c : ℕ) (s : Start) → Known b → AreValues b v
    → enter_fault b v c s ≡ None → let o = enter_outcome b v c s in
    AreValues b (change b (enter_effect c s o.act o.message) v)
kept_enter b v c s known are e =
    let may = may_enter b v c s e in
    let found = are_in_life b s.life v known are in
    enter_ends (λ f. AreValues b (change b f v)) b v c s
    (λ halts. kept_ceasing b v c s known may.1 halts found)
    (kept_entering b v c s known may.0 may.1 found)
    (λ awake none. parks_kept b v c s known may.0 may.1 awake none found)

-- All calls -----------------------------------------------------------------------------------

may_call : (b : BoardValue) (v : Values) (c : ℕ) → call_fault b v c ≡ None
    → (c < cores b) × (v.phase c ≡ Running)
may_call b v c e = grind (arith, nat_tests)

reply_ends : (P : FwReply → Type 0) (f : Option FwFault) (o : Outcome)
    → ((x : FwFault) → P (Fault x)) → (f ≡ None → P (Out o)) → P (reply_or f o)
reply_ends P f o refused answered = grind arith

pub kept_answer : (b : BoardValue) (v : Values) (c : ℕ) (call : FwCall) → Known b → AreValues b v
    → Worded b → IsPhase b (Suspended (deepest_of (height b)))
    → AreValues b (after b c call (answer b v c call) v)
unfolding after answer
kept_answer b v c (Smc regs) known are asks all =
    reply_ends (λ r. AreValues b (change b (effect_of b c (Smc regs) r) v)) (call_fault b v c)
    (outcome_of b v c (request_of regs)) (λ x. are) (λ e.
    let may = may_call b v c e in
    kept_function b v c (request_of regs) known may.0 are may.1 asks all)
kept_answer b v c (Enter s) known are asks all =
    reply_ends (λ r. AreValues b (change b (effect_of b c (Enter s) r) v)) (enter_fault b v c s)
    (enter_outcome b v c s) (λ x. are) (kept_enter b v c s known are)
kept_answer b v c (Take a) known are asks all = grind (arith, kept_acknowledged b v a are)

-- Histories -----------------------------------------------------------------------------------

pub kept_legal : (b : BoardValue) (h : List FwExchange) → Known b → Worded b
    → IsPhase b (Suspended (deepest_of (height b))) → IsLegal b h → AreValues b (values_of b h)
kept_legal b [] known asks all legal =
    subst (AreValues b) (sym (values_none b)) (are_first b 0 known)
kept_legal b (e ∷ h) known asks all legal =
    subst (AreValues b)
    (sym (values_more b e h ∙ ap (λ r. after b e.core e.call r (values_of b h)) legal.0))
    (kept_answer b (values_of b h) e.core e.call known (kept_legal b h known asks all legal.1) asks
    all)
