-- The values of a state are such as the firmware keeps exactly where each of its cores is sound.
use Rattle.std.specs.Prelude.{is_some, nat_le}
use Rattle.std.proofs.Common.{◌+◌, ◌<◌, ◌||◌, ◌∙◌, ◌≡◌, ◌≤◌, ap, arith, Bool, false, inl, inr}
use Rattle.std.proofs.Common.{length, List, not, refl, subst, sym, true, ℕ}
use Rattle.std.proofs.lemmas.Bool.{and_from, and_parts, cases_lt, eq-eqb, eqb-true, false≢true}
use Rattle.std.proofs.lemmas.Bool.{le-leb, leb-true}
use Rattle.std.proofs.lemmas.List.{get_or_past}
use Rattle.psci_board.specs.Board.{BoardValue, cores, height, place_above, size_below, up}
use Rattle.psci_state.specs.PowerState.{highest_of, is_deep}
use Rattle.psci_state.specs.Cores.{asks}
use Rattle.psci_state.specs.declared.cores.Activity.{Activity}
use Rattle.psci_state.specs.declared.cores.Activity.TheVariants as activities
use Rattle.psci_tree.specs.Recount.{granted_at, IsActivity, never_started, state_at, TreeValue}
use Rattle.psci_tree.proofs.SavedRows.{all_range, at_range}
use Rattle.psci_messages.specs.View.{domain_of, is_all_away}
use Rattle.psci_fw_spec.specs.Invariant.{agrees, AreAwake, AreValues, ask, is_expected, IsPhase}
use Rattle.psci_fw_spec.specs.Invariant.{view}
use Rattle.psci_fw_spec.specs.Phases as phases
use Rattle.psci_fw_spec.specs.Phases.{Phase}
use Rattle.psci_fw_spec.specs.Values.{Values}
use Rattle.psci_fw_spec.specs.declared.mode.SuspendMode.{SuspendMode}
use Rattle.psci_fw_spec.specs.declared.mode.SuspendMode.TheVariants.{OsInitiated, Platform}
use Rattle.psci_fw_spec.specs.declared.status.Status.{Status}
use Rattle.psci_fw_spec.specs.declared.status.Status.TheVariants.{Off, On, Pending}
use Rattle.psci_fw_state.specs.Rows.{off_row, row_at}
use Rattle.psci_fw_state.specs.Seen.{IsState, phase_by, StateValue, values_in}
use Rattle.psci_fw_state.specs.Sound.{is_core_awake, is_core_sound, is_domain_awake, is_low}
use Rattle.psci_fw_state.specs.Sound.{is_platform, is_same, is_sound}
use Rattle.psci_fw_state.proofs.KeptCounts.{active_by}

-- What is tested of one core, by what it does and its status --------------------------------------

pub low_suspended : (b : BoardValue) (s : Status) (ask : List ℕ)
    → is_low b (phase_by s (activities.Suspended ask)) ≡ nat_le (highest_of ask) (height b)
low_suspended b On ask = refl
low_suspended b Off ask = refl
low_suspended b Pending ask = refl

pub low_active : (b : BoardValue) (s : Status) → is_low b (phase_by s activities.Active) ≡ true
low_active b On = refl
low_active b Off = refl
low_active b Pending = refl

pub low_away : (b : BoardValue) (s : Status) → is_low b (phase_by s activities.Away) ≡ true
low_away b On = refl
low_away b Off = refl
low_away b Pending = refl

pub expected_suspended : (s : Status) (ask : List ℕ)
    → is_expected (phase_by s (activities.Suspended ask)) ≡ is_deep ask
expected_suspended On ask = refl
expected_suspended Off ask = refl
expected_suspended Pending ask = refl

pub expected_away : (s : Status) → is_expected (phase_by s activities.Away) ≡ false
expected_away On = refl
expected_away Off = refl
expected_away Pending = refl

-- what search needs of them
pub ruleset low_by = (low_suspended, low_active, low_away)

pub ruleset expected_by = (expected_suspended, expected_away)

-- what a core asks of itself
pub own_asked : (s : StateValue) (t : TreeValue) (c : ℕ) (a : Activity) → t ≡ s.tree
    → a ≡ (state_at t c).activity → asks a 0 ≡ ask s.board (values_in s) c 0
unfolding values_in
own_asked s t c a e f =
    rw (le-leb 0 (height s.board) (omega arith)) (ap (λ x. asks x 0)
    (f
    ∙ ap (λ (x : TreeValue). (state_at x c).activity) e
    ∙ sym (active_by (row_at s.rows c).status (state_at s.tree c).activity)))

-- Sound -------------------------------------------------------------------------------------------

-- Tests ------------------------------------------------------------------------------------------

pub same_true : (s t : Bool) → is_same s t ≡ true → s ≡ t
same_true true true e = refl
same_true false false e = refl
same_true true false e = sym e
same_true false true e = e

pub same_from : (s t : Bool) → s ≡ t → is_same s t ≡ true
same_from true true e = refl
same_from false false e = refl
same_from true false e = sym e
same_from false true e = e

-- what holds, where a condition does
then_true : (t u : Bool) → (not t || u) ≡ true → t ≡ true → u ≡ true
then_true true u e h = e
then_true false u e h = absurd (false≢true h)

then_from : (t u : Bool) → (t ≡ true → u ≡ true) → (not t || u) ≡ true
then_from true u h = h refl
then_from false u h = refl

or_true : (t u : Bool) → (t || u) ≡ true → t ≡ false → u ≡ true
or_true false u e h = e
or_true true u e h = absurd (false≢true (sym h))

or_from : (t u : Bool) → (t ≡ false → u ≡ true) → (t || u) ≡ true
or_from true u h = refl
or_from false u h = h refl

platform_is : (m : SuspendMode) → m ≡ Platform → is_platform m ≡ true
platform_is m e = ap is_platform e

pub platform_of : (m : SuspendMode) → is_platform m ≡ true → m ≡ Platform
platform_of Platform e = refl
platform_of OsInitiated e = absurd (false≢true e)

-- Beyond the last core ---------------------------------------------------------------------------

pub no_core : (s : StateValue) (c : ℕ) → IsState s → cores s.board ≤ c
    → state_at s.tree c ≡ never_started
no_core s c is h =
    get_or_past s.tree.cores c never_started
    (omega (arith, h, is.tree.cores, ap (λ ls. size_below ls) is.levels))

no_row : (s : StateValue) (c : ℕ) → IsState s → cores s.board ≤ c → row_at s.rows c ≡ off_row
no_row s c is h = get_or_past s.rows c off_row (omega (arith, h, is.rows))

-- Each core --------------------------------------------------------------------------------------

-- what a sound core tells
record IsSoundCore (b : BoardValue) (v : Values) (c : ℕ) : Type 0 where
  known : v.known c ≤ b.starts
  agree : agrees (v.status c) (v.phase c) ≡ true
  low : is_low b (v.phase c) ≡ true
  asked : v.granted 0 c ≤ ask b v c 0
  awake : v.halting ≡ false → is_core_awake b v c ≡ true

sound_core : (b : BoardValue) (v : Values) (c : ℕ) → is_core_sound b v c ≡ true → IsSoundCore b v c
sound_core b v c h =
    let both = and_parts _ _ h in
    let first = and_parts _ _ both.0 in
    let second = and_parts _ _ first.1 in
    let third = and_parts _ _ second.1 in
    record {
      known = leb-true _ _ first.0;
      agree = second.0;
      low = third.0;
      asked = leb-true _ _ third.1;
      awake = or_true v.halting _ both.1;
    }

low_phase : (b : BoardValue) (s : Status) (a : Activity) → IsActivity a
    → is_low b (phase_by s a) ≡ true → IsPhase b (phase_by s a)
low_phase b On (activities.Suspended ask) i h = (i, leb-true _ _ h)
low_phase b Off (activities.Suspended ask) i h = (i, leb-true _ _ h)
low_phase b Pending (activities.Suspended ask) i h = (i, leb-true _ _ h)
low_phase b On activities.Active i h = tt
low_phase b Off activities.Active i h = tt
low_phase b Pending activities.Active i h = tt
low_phase b On activities.Away i h = tt
low_phase b Off activities.Away i h = tt
low_phase b Pending activities.Away i h = tt

-- What awake cores tell ---------------------------------------------------------------------------

record IsAwakeCore (b : BoardValue) (v : Values) (c : ℕ) : Type 0 where
  opening : is_some (v.opening c) ≡ is_expected (v.phase c)
  own : v.granted 0 c ≡ ask b v c 0
  domains : (level : ℕ) → level ≤ height b → is_domain_awake b v c level ≡ true

awake_core : (b : BoardValue) (v : Values) (c : ℕ) → is_core_awake b v c ≡ true → IsAwakeCore b v c
awake_core b v c h =
    let both = and_parts _ _ h in
    let rest = and_parts _ _ both.1 in
    record {
      opening = same_true _ _ both.0;
      own = eqb-true _ _ rest.0;
      domains = λ level low. at_range (is_domain_awake b v c) 0 (height b + 1) level rest.1
          (omega arith) (omega (arith, low));
    }

-- Sound -------------------------------------------------------------------------------------------

each_sound : (b : BoardValue) (v : Values) → is_sound b v ≡ true → (c : ℕ) → c < cores b
    → IsSoundCore b v c
each_sound b v h c i =
    sound_core b v c (at_range (is_core_sound b v) 0 (cores b) c h (omega arith) (omega (arith, i)))

all_awake : (s : StateValue) → IsState s → is_sound s.board (values_in s) ≡ true
    → s.halting ≡ false → AreAwake s.board (values_in s)
unfolding values_in
all_awake s is h calm =
    let b = s.board in
    let v : Values = values_in s in
    let each : (c : ℕ) → c < cores b → IsAwakeCore b v c =
    λ c i. awake_core b v c ((each_sound b v h c i).awake calm) in
    record {
      opening = λ c. elim (cases_lt c (cores b)) [
        | inl i ↦ (each c i).opening
        | inr i ↦ rw (no_row s c is (omega (arith, i)), no_core s c is (omega (arith, i))) refl
      ];
      own = λ c i. (each c i).own;
      away = λ c level i low gone. eqb-true _ _
          (then_true _ _ (and_parts _ _ ((each c i).domains level low)).0 gone);
      least = λ mode c level i low. eqb-true _ _
          (then_true _ _ (and_parts _ _ ((each c i).domains level low)).1
          (platform_is s.mode mode));
    }

-- no domain is granted more than the one below it: so it is in each tree
nested : (s : StateValue) → IsState s → (c level : ℕ) → c < cores s.board → level < height s.board
    → granted_at s.tree (level + 1) (up s.board (level + 1) c)
    ≤ granted_at s.tree level (up s.board level c)
unfolding up
nested s is c level i low =
    let same = is.levels in
    let inside : c < size_below s.tree.levels = rw same i in
    let high : level < length s.tree.levels = rw same low in
    subst (λ ls. granted_at s.tree (level + 1) (place_above ls (level + 1) c)
    ≤ granted_at s.tree level (place_above ls level c)) same (is.tree.nested c level inside high)

-- what is kept of a state whose cores are sound is what the firmware keeps
pub sound : (s : StateValue) → IsState s → is_sound s.board (values_in s) ≡ true
    → AreValues s.board (values_in s)
unfolding values_in
sound s is h =
    let b = s.board in
    let v : Values = values_in s in
    let each : (c : ℕ) → c < cores b → IsSoundCore b v c = each_sound b v h in
    record {
      known = λ c. elim (cases_lt c (cores b)) [
        | inl i ↦ (each c i).known
        | inr i ↦ rw (no_core s c is (omega (arith, i))) (omega arith)
      ];
      agree = λ c. elim (cases_lt c (cores b)) [
        | inl i ↦ (each c i).agree
        | inr i ↦ rw (no_row s c is (omega (arith, i)), no_core s c is (omega (arith, i))) refl
      ];
      phase = λ c. elim (cases_lt c (cores b)) [
        | inl i ↦ low_phase b (row_at s.rows c).status (state_at s.tree c).activity (is.tree.asks c)
            (each c i).low
        | inr i ↦ rw (no_row s c is (omega (arith, i)), no_core s c is (omega (arith, i))) tt
      ];
      nested = λ c level i low. nested s is c level i low;
      asked = λ c i. (each c i).asked;
      awake = λ calm. all_awake s is h calm;
    }

-- Other values are none ---------------------------------------------------------------------------

phase_low : (b : BoardValue) (p : Phase) → IsPhase b p → is_low b p ≡ true
phase_low b phases.Pending h = refl
phase_low b phases.Running h = refl
phase_low b (phases.Suspended ask) h = le-leb _ _ h.1
phase_low b phases.Away h = refl

awake_from : (b : BoardValue) (v : Values) → AreAwake b v → (c : ℕ) → c < cores b
    → is_core_awake b v c ≡ true
awake_from b v are c i =
    and_from _ _ (same_from _ _ (are.opening c))
    (and_from _ _ (eq-eqb _ _ (are.own c i))
    (all_range (is_domain_awake b v c) 0 (height b + 1) (λ level low high.
    let at : level ≤ height b = omega (arith, high) in
    and_from _ _
    (then_from (is_all_away b (view b v) (domain_of b c level)) _
    (λ gone. eq-eqb _ _ (are.away c level i at gone)))
    (then_from (is_platform v.mode) _
    (λ own. eq-eqb _ _ (are.least (platform_of v.mode own) c level i at))))))

core_from : (b : BoardValue) (v : Values) → AreValues b v → (c : ℕ) → c < cores b
    → is_core_sound b v c ≡ true
core_from b v are c i =
    and_from _ _
    (and_from _ _ (le-leb _ _ (are.known c))
    (and_from _ _ (are.agree c)
    (and_from _ _ (phase_low b (v.phase c) (are.phase c)) (le-leb _ _ (are.asked c i)))))
    (or_from v.halting (is_core_awake b v c) (λ calm. awake_from b v (are.awake calm) c i))

pub sound_of : (b : BoardValue) (v : Values) → AreValues b v → is_sound b v ≡ true
sound_of b v are =
    all_range (is_core_sound b v) 0 (cores b)
    (λ c low high. core_from b v are c (omega (arith, high)))
