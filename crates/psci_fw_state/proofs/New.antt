-- The values of a state are those of a new firmware exactly where each test of them passes.
use Rattle.std.proofs.Common.{◌&&◌, ◌+◌, ◌<◌, ◌==◌, ◌∙◌, ◌≡◌, ◌≤◌, ap, arith, Bool, cond, false}
use Rattle.std.proofs.Common.{inl, inr, None, not, Option, refl, Some, suc, sym, true, zero, ℕ}
use Rattle.std.specs.Prelude.{is_some, nat_lt}
use Rattle.std.proofs.lemmas.Bool.{and_from, and_parts, cases_lt, eq-eqb, eqb-true, false≢true}
use Rattle.std.proofs.lemmas.Bool.{le-leb, le-ltb, lt-ltb, ne_eqb, not-true}
use Rattle.std.proofs.lemmas.List.{get_or_past}
use Rattle.psci_board.specs.Board.{BoardValue, cores, height, nodes, place_above, up}
use Rattle.psci_messages.specs.Message.{MessageValue}
use Rattle.psci_messages.specs.Slots.{Slot, message_in}
use Rattle.psci_messages.specs.Slots.Slot.{OfCore, OfSystem}
use Rattle.psci_state.specs.declared.cores.Activity.{Activity}
use Rattle.psci_state.specs.declared.cores.Activity.TheVariants as activities
use Rattle.psci_tree.specs.Recount.{granted_at, is_confirmed_at, never_started, state_at}
use Rattle.psci_tree.specs.Recount.{TreeValue}
use Rattle.psci_tree.specs.Standing.{on_path}
use Rattle.psci_board.specs.declared.draft.Node.{Node}
use Rattle.psci_tree.proofs.SavedRows.{all_range, at_range}
use Rattle.psci_fw_spec.specs.declared.mode.SuspendMode.TheVariants.{Platform}
use Rattle.psci_fw_spec.specs.declared.opening.Opening.{Opening}
use Rattle.psci_fw_spec.specs.declared.status.Status.{Status}
use Rattle.psci_fw_spec.specs.declared.status.Status.TheVariants.{On, Off, Pending}
use Rattle.psci_fw_spec.specs.Changes.{first_opening, first_phase, first_status, start_of_life}
use Rattle.psci_fw_spec.specs.Phases.{is_away}
use Rattle.psci_fw_spec.specs.Values.{Values}
use Rattle.psci_fw_state.specs.New.{are_first_depths, is_first_core, is_first_domain}
use Rattle.psci_fw_state.specs.New.{is_first_level, is_first_opening, is_first_phase}
use Rattle.psci_fw_state.specs.New.{is_first_status, is_new, is_silent}
use Rattle.psci_fw_state.specs.Rows.{first_row, row_at}
use Rattle.psci_fw_state.specs.Seen.{IsState, StateValue, is_pending_phase, phase_by, values_in}
use Rattle.psci_fw_state.proofs.Begun.{at_start, first_core, some_below}
use Rattle.psci_fw_state.proofs.Moved.{eqb_swap}
use Rattle.psci_fw_state.proofs.Sound.{no_core, platform_of}

-- One core ---------------------------------------------------------------------------------------

first_no : (c : ℕ) → (0 == suc c) ≡ false
first_no c = ne_eqb 0 (suc c) (λ e. omega (arith, e))

second_no : (c : ℕ) → (suc c == 0) ≡ false
second_no c = ne_eqb (suc c) 0 (λ e. omega (arith, e))

status_is : (c : ℕ) (s : Status) → is_first_status c s ≡ true → s ≡ first_status c
status_is c On e = absurd (false≢true e)
status_is c Off e = let other : (c == 0) ≡ false = not-true _ e in rw other refl
status_is c Pending e = rw e refl

pending_is : (s : Status) (a : Activity) → is_pending_phase (phase_by s a) ≡ true
    → a ≡ activities.Active
pending_is s a e = grind arith

away_is : (s : Status) (a : Activity) → is_away (phase_by s a) ≡ true → a ≡ activities.Away
away_is s a e = grind arith

activity_is : (c : ℕ) (s : Status) (a : Activity) → is_first_phase c (phase_by s a) ≡ true
    → a ≡ (first_core c).activity
activity_is zero s a e = pending_is s a e
activity_is (suc c) s a e = rw (first_no c) (away_is s a (rw (second_no c) at e))

known_is : (c : ℕ) → (first_core c).known ≡ 0
known_is zero = refl
known_is (suc c) = rw (first_no c) refl

opening_is : (b : BoardValue) (c : ℕ) (o : Option Opening) → is_first_opening b c o ≡ true
    → o ≡ first_opening b c
opening_is b c None e = let other : (c == 0) ≡ false = not-true _ e in rw other refl
opening_is b c (Some o) e =
    let both = and_parts _ _ e in
    let rest = and_parts _ _ both.1 in
    let first : (c == 0) ≡ true = both.0 in
    rw first (λ i. Some (record {
      address = eqb-true o.address b.boot rest.0 i;
      context = eqb-true o.context 0 rest.1 i;
    }))

-- what the tests of a core tell
record IsFirstCore (s : StateValue) (c : ℕ) : Type 0 where
  core : state_at s.tree c ≡ first_core c
  row : row_at s.rows c ≡ first_row s.board c

first_is : (s : StateValue) (c : ℕ) → is_first_core s.board (values_in s) c ≡ true
    → IsFirstCore s c
unfolding values_in
first_is s c h =
    let both = and_parts _ _ h in
    let rest = and_parts _ _ both.1 in
    let last = and_parts _ _ rest.1 in
    let known : (state_at s.tree c).known ≡ (first_core c).known =
    eqb-true _ _ both.0 ∙ sym (known_is c) in
    let activity = activity_is c (row_at s.rows c).status (state_at s.tree c).activity last.0 in
    let status = status_is c (row_at s.rows c).status rest.0 in
    let opening = opening_is s.board c (row_at s.rows c).opening last.1 in
    record {
      core = λ i. record { activity = activity i; known = known i };
      row = λ i. record { status = status i; opening = opening i };
    }

-- One domain -------------------------------------------------------------------------------------

depths_are : (t : Bool) (g : ℕ) (c : Bool) → are_first_depths t g c ≡ true
    → (g ≡ cond t 0 3) × (c ≡ cond t false true)
depths_are true g c h = let both = and_parts _ _ h in (eqb-true g 0 both.0, not-true c both.1)
depths_are false g c h = let both = and_parts _ _ h in (eqb-true g 3 both.0, both.1)

record IsFirstDomain (s : StateValue) (l p : ℕ) : Type 0 where
  granted : granted_at s.tree l p ≡ cond (place_above s.board.levels l 0 == p) 0 3
  confirmed : is_confirmed_at s.tree l p ≡ cond (place_above s.board.levels l 0 == p) false true

domain_is : (s : StateValue) (l p : ℕ) → is_first_domain s.board (values_in s) l p ≡ true
    → IsFirstDomain s l p
unfolding values_in up
domain_is s l p h =
    let place = place_above s.board.levels l 0 in
    let are = depths_are (p == place) (granted_at s.tree l p) (is_confirmed_at s.tree l p) h in
    record {
      granted = are.0 ∙ ap (λ t. cond t 0 3) (eqb_swap p place);
      confirmed = are.1 ∙ ap (λ t. cond t false true) (eqb_swap p place);
    }

-- Messages ---------------------------------------------------------------------------------------

none_is : (o : Option MessageValue) → not (is_some o) ≡ true → o ≡ None
none_is None e = refl
none_is (Some m) e = absurd (false≢true e)

core_silent : (s : StateValue) (c : ℕ) → c < cores s.board
    → is_silent s.board (values_in s) c ≡ true → message_in s.slots (OfCore c) ≡ None
unfolding values_in
core_silent s c inside h =
    none_is _ (ap (λ t. not (is_some (cond t (message_in s.slots (OfCore c))
    (cond (c == cores s.board) (message_in s.slots OfSystem) None))))
    (sym (lt-ltb _ _ inside)) ∙ h)

system_silent : (s : StateValue) → is_silent s.board (values_in s) (cores s.board) ≡ true
    → message_in s.slots OfSystem ≡ None
unfolding values_in
system_silent s h =
    let n = cores s.board in
    none_is _ (ap (λ t. not (is_some (cond t (message_in s.slots OfSystem) None)))
    (sym (eq-eqb n n refl))
    ∙ ap (λ t. not (is_some (cond t (message_in s.slots (OfCore n))
    (cond (n == n) (message_in s.slots OfSystem) None)))) (sym (le-ltb n n (omega arith)))
    ∙ h)

-- New --------------------------------------------------------------------------------------------

-- what the tests of a whole state tell
record AreNew (b : BoardValue) (v : Values) : Type 0 where
  life : v.life ≡ 0
  calm : v.halting ≡ false
  mode : v.mode ≡ Platform
  core : (c : ℕ) → c < cores b → is_first_core b v c ≡ true
  domain : (l p : ℕ) → l ≤ height b → p < nodes b l → is_first_domain b v l p ≡ true
  silent : (n : ℕ) → n ≤ cores b → is_silent b v n ≡ true

are_new : (b : BoardValue) (v : Values) → is_new b v ≡ true → AreNew b v
are_new b v h =
    let first = and_parts _ _ h in
    let second = and_parts _ _ first.1 in
    let third = and_parts _ _ second.1 in
    let fourth = and_parts _ _ third.1 in
    let fifth = and_parts _ _ fourth.1 in
    record {
      life = eqb-true _ _ first.0;
      calm = not-true _ second.0;
      mode = platform_of v.mode third.0;
      core = λ c i. at_range (is_first_core b v) 0 (cores b) c fourth.0 (omega arith)
          (omega (arith, i));
      domain = λ l p low i. at_range (is_first_domain b v l) 0 (nodes b l) p
          (at_range (is_first_level b v) 0 (height b + 1) l fifth.0 (omega arith)
          (omega (arith, low))) (omega arith) (omega (arith, i));
      silent = λ n i. at_range (is_silent b v) 0 (cores b + 1) n fifth.1 (omega arith)
          (omega (arith, i));
    }

-- the values of a state that is as a new firmware's are those
pub new_is : (s : StateValue) → IsState s → is_new s.board (values_in s) ≡ true
    → values_in s ≡ start_of_life s.board 0
unfolding values_in
new_is s is h =
    let b = s.board in
    let are = are_new b (values_in s) h in
    let some : 0 < cores b = some_below b.levels is.board.tree in
    let outside : (c : ℕ) → cores b ≤ c → never_started ≡ first_core c =
    λ c i. beyond c (omega (arith, i, some)) in
    let same : values_in s
    ≡ values_in (record s { life = 0; halting = false; mode = Platform }) =
    λ i. values_in (record s { life = are.life i; halting = are.calm i; mode = are.mode i }) in
    same
    ∙ at_start b b 0 s.tree s.rows s.counts s.slots is.board is.tree is.levels
    (λ c. elim (cases_lt c (cores b)) [
      | inl i ↦ (first_is s c (are.core c i)).core
      | inr i ↦ no_core s c is (omega (arith, i)) ∙ outside c (omega (arith, i))
    ])
    (λ l p low i. (domain_is s l p (are.domain l p low i)).granted)
    (λ l p low i. (domain_is s l p (are.domain l p low i)).confirmed)
    (record { count = is.rows; each = λ c i. (first_is s c (are.core c i)).row })
    silent
  where
    beyond : (c : ℕ) → 0 < c → never_started ≡ first_core c
    beyond zero i = absurd (omega (arith, i))
    beyond (suc c) i = rw (first_no c) refl

    silent : (slot : Slot) → message_in s.slots slot ≡ None
    silent OfSystem = system_silent s ((are_new s.board (values_in s) h).silent (cores s.board)
        (omega arith))
    silent (OfCore c) = elim (cases_lt c (cores s.board)) [
      | inl i ↦ core_silent s c i ((are_new s.board (values_in s) h).silent c (omega (arith, i)))
      | inr i ↦ get_or_past s.slots.cores c None (omega (arith, i, is.slots))
    ]

-- A new firmware's values -----------------------------------------------------------------------

status_first : (c : ℕ) → is_first_status c (first_status c) ≡ true
status_first zero = refl
status_first (suc c) = rw (second_no c) (rw (second_no c) refl)

phase_first : (c : ℕ) → is_first_phase c (first_phase c) ≡ true
phase_first zero = refl
phase_first (suc c) = rw (second_no c) refl

opening_first : (b : BoardValue) (c : ℕ) → is_first_opening b c (first_opening b c) ≡ true
opening_first b zero = and_from _ _ refl (and_from _ _ (eq-eqb b.boot b.boot refl) refl)
opening_first b (suc c) = rw (second_no c) (rw (second_no c) refl)

silent_first : (t u : Bool)
    → not (is_some (cond {A = Option MessageValue} t None (cond u None None))) ≡ true
silent_first true u = refl
silent_first false true = refl
silent_first false false = refl

depths_first : (b : BoardValue) (l p : ℕ) → l ≤ height b → p < nodes b l
    → is_first_domain b (start_of_life b 0) l p ≡ true
depths_first b l p low inside =
    rw (le-leb l (height b) low, lt-ltb p (nodes b l) inside) (by (p == up b l 0))
  where
    by : (t : Bool) → are_first_depths t (cond (true && not t) 3 0) (true && not t) ≡ true
    by true = refl
    by false = refl

-- pass the tests
pub start_is : (b : BoardValue) → is_new b (start_of_life b 0) ≡ true
start_is b =
    let v = start_of_life b 0 in
    and_from _ _ refl (and_from _ _ refl (and_from _ _ refl
    (and_from _ _
    (all_range (is_first_core b v) 0 (cores b) (λ c _ _.
    and_from _ _ refl (and_from _ _ (status_first c)
    (and_from _ _ (phase_first c) (opening_first b c)))))
    (and_from _ _
    (all_range (is_first_level b v) 0 (height b + 1) (λ l _ low.
    all_range (is_first_domain b v l) 0 (nodes b l) (λ p _ inside.
    depths_first b l p (omega (arith, low)) (omega (arith, inside)))))
    (all_range (is_silent b v) 0 (cores b + 1) (λ n _ _.
    silent_first (nat_lt n (cores b)) (n == cores b)))))))

-- The test of a domain --------------------------------------------------------------------------

pub depths_by : (s : StateValue) (t u w : TreeValue) (own n : Node) (granted : ℕ) (sure : Bool)
    → IsState s → t ≡ s.tree → u ≡ s.tree → w ≡ s.tree → own ≡ on_path t.levels 0 n.level
    → granted ≡ granted_at u n.level n.place → sure ≡ is_confirmed_at w n.level n.place
    → are_first_depths (n.place == own.place) granted sure
    ≡ is_first_domain s.board (values_in s) n.level n.place
unfolding up values_in
depths_by s t u w own n granted sure is first second third e g f =
    let place : own.place ≡ place_above s.board.levels n.level 0 =
    ap (λ (m : Node). m.place) e
    ∙ ap (λ (x : TreeValue). place_above x.levels n.level 0) first
    ∙ ap (λ ls. place_above ls n.level 0) is.levels in
    let granted_is : granted ≡ granted_at s.tree n.level n.place =
    g ∙ ap (λ (x : TreeValue). granted_at x n.level n.place) second in
    let sure_is : sure ≡ is_confirmed_at s.tree n.level n.place =
    f ∙ ap (λ (x : TreeValue). is_confirmed_at x n.level n.place) third in
    λ i. are_first_depths (n.place == place i) (granted_is i) (sure_is i)
