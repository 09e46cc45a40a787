-- Power and claims at a moment are as they shall be where the tests say so.
use Rattle.std.proofs.Common.{slice_get}
use Rattle.std.proofs.lemmas.Bool.{both_ways, not-true}
use Rattle.psci_headline.specs.Safe.{OneLiveClaim, taken_up}
use Rattle.psci_headline.specs.Test.{are_apart, at_each_core, at_each_domain, at_each_level}
use Rattle.psci_headline.specs.Test.{is_fitting, is_same_made}
use Rattle.psci_headline.proofs.Words.{◌&&◌, ◌+◌, ◌<◌, ◌==◌, ◌||◌, ◌↔◌, ◌∙◌, ◌∷◌, ◌≡◌, ◌≤◌, []}
use Rattle.psci_headline.proofs.Words.{AlwaysSafe, and_from, and_parts, ap, AreTakenUp, arith}
use Rattle.psci_headline.proofs.Words.{BoardValue, Bool, cases_Bool, cases_eq, cores, depth_at}
use Rattle.psci_headline.proofs.Words.{eq-eqb, eqb-true, executes, executes_outside}
use Rattle.psci_headline.proofs.Words.{firmware_history, Fits, HasNode, height, inl, inr}
use Rattle.psci_headline.proofs.Words.{is_always_safe, is_asked, is_each_once, is_each_open}
use Rattle.psci_headline.proofs.Words.{is_each_real, is_off_down, is_off_stopped, is_one}
use Rattle.psci_headline.proofs.Words.{is_powered, is_reported_off, is_safe, le-leb, leb-true}
use Rattle.psci_headline.proofs.Words.{List, list_all, Made, nat_tests, Node, NoDeeperThanAsked}
use Rattle.psci_headline.proofs.Words.{nodes, NoneBelowSleeping, not, not_from_false, OffIsDown}
use Rattle.psci_headline.proofs.Words.{Option, or_cases, or_left, or_right, place, Place}
use Rattle.psci_headline.proofs.Words.{range_with_len, Record, refl, Running, Safe, Some}
use Rattle.psci_headline.proofs.Words.{StatesWereReal, suc, sym, TakenUp, true, true≢false, up}
use Rattle.psci_headline.proofs.Words.{zero, ℕ}

-- Ranges ------------------------------------------------------------------------------------------
-- What passes at each number of a range, or at each item of a list, and the other way round.

-- Numbers -------------------------------------------------------------------------------------

pub each_in : (p : ℕ → Bool) (a n k : ℕ) → list_all p (range_with_len a n) ≡ true → a ≤ k
    → k < a + n → p k ≡ true
each_in p a zero k e low high = absurd (omega arith)
each_in p a (suc n) k e low high =
    grind (arith, nat_tests, and_parts, cases_eq, each_in p (a + 1) n k)

pub all_in : (p : ℕ → Bool) (a n : ℕ) → ((k : ℕ) → a ≤ k → k < a + n → p k ≡ true)
    → list_all p (range_with_len a n) ≡ true
all_in p a zero h = refl
all_in p a (suc n) h = grind (arith, nat_tests, and_from, all_in p (a + 1) n)

-- Items ---------------------------------------------------------------------------------------

pub each_item : {A : Type 0} (p : A → Bool) (xs : List A) (k : ℕ) (x : A)
    → list_all p xs ≡ true → slice_get xs k ≡ Some x → p x ≡ true
each_item p [] k x e at = absurd (cc)
each_item p (y ∷ ys) zero x e at = grind (arith, nat_tests, and_parts)
each_item p (y ∷ ys) (suc k) x e at =
    each_item p ys k x (and_parts (p y) (list_all p ys) e).1 at

pub all_items : {A : Type 0} (p : A → Bool) (xs : List A)
    → ((k : ℕ) (x : A) → slice_get xs k ≡ Some x → p x ≡ true) → list_all p xs ≡ true
all_items p [] h = refl
all_items p (y ∷ ys) h =
    and_from (p y) (list_all p ys) (h 0 y refl) (all_items p ys (λ k x at. h (suc k) x at))

-- One test where another holds ----------------------------------------------------------------

pub where_holds : (x y : Bool) → (not x || y) ≡ true → x ≡ true → y ≡ true
where_holds x y e h = grind (arith, nat_tests, true≢false)

pub if_holds : (x y : Bool) → (x ≡ true → y ≡ true) → (not x || y) ≡ true
if_holds x y h = grind (arith, nat_tests)

-- Entries take up openings, each one of its own, where the tests say so ---------------------------

-- One entry -----------------------------------------------------------------------------------

-- an opening that fits
abbrev HasFit : TakenUp → Type 0
HasFit t = (m : Made) × (t.made ≡ Some m) × Fits t m

fits : (t : TakenUp) (o : Option Made) → t.made ≡ o → is_fitting t.entered o ≡ true → HasFit t
fits t o is e = grind (arith, nat_tests, and_parts, eqb-true)

fitting : (t : TakenUp) → HasFit t → is_fitting t.entered t.made ≡ true
fitting t x1 = grind (arith, nat_tests, and_from, eq-eqb)

-- No two --------------------------------------------------------------------------------------

-- two openings that are the same one
record AreSame (made other : Option Made) : Type 0 where
  one : Made
  two : Made
  is : made ≡ Some one
  so : other ≡ Some two
  maker : one.maker ≡ two.maker

same_made : (made other : Option Made) → is_same_made made other ≡ true → AreSame made other
same_made made other e = grind (arith, nat_tests, eqb-true)

-- no two of them took up the same opening
abbrev AreOnce : List TakenUp → Type 0
AreOnce ts = (j k : ℕ) (t u : TakenUp) (m n : Made) → slice_get ts j ≡ Some t
    → slice_get ts k ≡ Some u → t.made ≡ Some m → u.made ≡ Some n → m.maker ≡ n.maker → j ≡ k

-- the first one and a later one took up different openings
later_apart : (t : TakenUp) (ts : List TakenUp) (k : ℕ) (u : TakenUp) (m n : Made)
    → are_apart (t ∷ ts) ≡ true → slice_get ts k ≡ Some u → t.made ≡ Some m → u.made ≡ Some n
    → m.maker ≡ n.maker → ⊥
later_apart t ts k u m n e at is so maker =
    grind (arith, nat_tests, each_item, and_parts, both_ways, not-true)

once : (ts : List TakenUp) → are_apart ts ≡ true → AreOnce ts
once [] e j k t u m n at too is so maker = absurd (cc)
once (x ∷ xs) e zero zero t u m n at too is so maker = refl
once (x ∷ xs) e zero (suc k) t u m n at too is so maker =
    let same : x ≡ t = cc in
    absurd (later_apart x xs k u m n e too (ap (λ (y : TakenUp). y.made) same ∙ is) so maker)
once (x ∷ xs) e (suc j) zero t u m n at too is so maker =
    let same : x ≡ u = cc in
    absurd (later_apart x xs j t n m e at (ap (λ (y : TakenUp). y.made) same ∙ so) is (sym maker))
once (x ∷ xs) e (suc j) (suc k) t u m n at too is so maker =
    let rest = (and_parts (list_all (λ y. not (is_same_made x.made y.made)) xs) _ e).1 in
    ap suc (once xs rest j k t u m n at too is so maker)

apart : (ts : List TakenUp) → AreOnce ts → are_apart ts ≡ true
apart [] h = refl
apart (x ∷ xs) h =
    and_from (list_all (λ y. not (is_same_made x.made y.made)) xs) (are_apart xs)
    (all_items (λ y. not (is_same_made x.made y.made)) xs (λ k u at.
    elim (cases_Bool (is_same_made x.made u.made)) [
      | inl same ↦ let s = same_made x.made u.made same in
          absurd (omega (arith, h 0 (suc k) x u s.one s.two refl at s.is s.so s.maker))
      | inr other ↦ not_from_false (is_same_made x.made u.made) other
    ]))
    (apart xs (λ j k t u m n at too is so maker.
    omega (arith, h (suc j) (suc k) t u m n at too is so maker)))

-- All entries ---------------------------------------------------------------------------------

-- what is taken up in the history of these records
abbrev ups : BoardValue → List Record → List TakenUp
ups b past = taken_up b (firmware_history b past)

pub entries_tested : (b : BoardValue) (past : List Record)
    → ((is_each_open b past && is_each_once b past) ≡ true)
    ↔ AreTakenUp b (firmware_history b past)
entries_tested b past = (
  (λ e. let both = and_parts (is_each_open b past) (is_each_once b past) e in record {
    each = λ k t at. grind (arith, nat_tests, fits, each_item);
    once = once (ups b past) both.1;
  }),
  λ h. and_from (is_each_open b past) (is_each_once b past)
      (all_items (λ t. is_fitting t.entered t.made) (ups b past)
      (λ k t at. fitting t (h.each k t at)))
      (apart (ups b past) h.once),
)

-- Tested ------------------------------------------------------------------------------------------

-- Everywhere on the board ---------------------------------------------------------------------

core_passes : (b : BoardValue) (p : ℕ → Bool) (c : ℕ) → at_each_core b p ≡ true → c < cores b
    → p c ≡ true
core_passes b p c e inside = each_in p 0 (cores b) c e (omega arith) (omega arith)

cores_pass : (b : BoardValue) (p : ℕ → Bool) → ((c : ℕ) → c < cores b → p c ≡ true)
    → at_each_core b p ≡ true
cores_pass b p h = all_in p 0 (cores b) (λ c low high. h c (omega arith))

level_passes : (b : BoardValue) (p : ℕ → Bool) (level : ℕ) → at_each_level b p ≡ true
    → level ≤ height b → p level ≡ true
level_passes b p level e low = each_in p 0 (height b + 1) level e (omega arith) (omega arith)

levels_pass : (b : BoardValue) (p : ℕ → Bool) → ((l : ℕ) → l ≤ height b → p l ≡ true)
    → at_each_level b p ≡ true
levels_pass b p h = all_in p 0 (height b + 1) (λ l low high. h l (omega arith))

-- whether the test passes at each domain of a level
abbrev on_level : BoardValue → (Node → Bool) → ℕ → Bool
on_level b p level =
    list_all (λ place. p (record { level = level; place = place }))
    (range_with_len 0 (nodes b level))

domain_passes : (b : BoardValue) (p : Node → Bool) (n : Node) → at_each_domain b p ≡ true
    → HasNode b n → p n ≡ true
domain_passes b p n e has =
    each_in (λ place. p (record { level = n.level; place = place })) 0 (nodes b n.level) n.place
    (level_passes b (on_level b p) n.level e has.level) (omega arith) (omega (arith, has.place))

domains_pass : (b : BoardValue) (p : Node → Bool) → ((n : Node) → HasNode b n → p n ≡ true)
    → at_each_domain b p ≡ true
domains_pass b p h = grind (arith, nat_tests, levels_pass, all_in)

-- Power ---------------------------------------------------------------------------------------

pub powered_tested : (b : BoardValue) (past : List Record)
    → (is_powered b past ≡ true) ↔ NoneBelowSleeping b past
powered_tested b past = (
  (λ e c level inside low up_here. eqb-true (depth_at b past level (up b level c)) 0
      (level_passes b (λ l. depth_at b past l (up b l c) == 0) level
      (where_holds (executes (place b past c)) _ (core_passes b _ c e inside) up_here) low)),
  λ h. cores_pass b _ (λ c inside. if_holds (executes (place b past c)) _ (λ up_here.
      levels_pass b (λ l. depth_at b past l (up b l c) == 0) (λ level low.
      eq-eqb (depth_at b past level (up b level c)) 0 (h c level inside low up_here)))),
)

-- Reported OFF --------------------------------------------------------------------------------

pub not_running : (p : Place) → not (executes_outside p) ≡ true → p ≡ Running → ⊥
not_running p e same = grind (arith, nat_tests)

pub still : (p : Place) → (p ≡ Running → ⊥) → not (executes_outside p) ≡ true
still p h = grind (arith, nat_tests)

pub off_tested : (b : BoardValue) (past : List Record)
    → ((is_off_stopped b past && is_off_down b past) ≡ true) ↔ OffIsDown b past
off_tested b past = (
  (λ e c inside off. let both = and_parts (is_off_stopped b past) (is_off_down b past) e in (
    not_running (place b past c)
        (where_holds (is_reported_off b past c) _ (core_passes b _ c both.0 inside) off),
    where_holds (is_reported_off b past c) _ (core_passes b _ c both.1 inside) off,
  )),
  λ h. and_from (is_off_stopped b past) (is_off_down b past)
      (cores_pass b _ (λ c inside. if_holds (is_reported_off b past c) _ (λ off.
      still (place b past c) (h c inside off).0)))
      (cores_pass b _ (λ c inside. if_holds (is_reported_off b past c) _ (λ off.
      (h c inside off).1))),
)

-- Claims --------------------------------------------------------------------------------------

pub one_tested : (b : BoardValue) (past : List Record)
    → (is_one b past ≡ true) ↔ OneLiveClaim b past
one_tested b past = grind (arith, nat_tests, leb-true, domain_passes, domains_pass, le-leb)

pub asked_tested : (b : BoardValue) (past : List Record)
    → (is_asked b past ≡ true) ↔ NoDeeperThanAsked b past
asked_tested b past =
    grind (
      arith,
      nat_tests,
      or_cases,
      eqb-true,
      where_holds,
      domain_passes,
      domains_pass,
      if_holds,
      cases_eq,
      or_left,
      eq-eqb,
      or_right,
    )

-- Hardware states -----------------------------------------------------------------------------

pub states_tested : (b : BoardValue) (past : List Record)
    → (is_each_real b past ≡ true) ↔ StatesWereReal b past
states_tested b past = grind (arith, nat_tests, where_holds, domain_passes, domains_pass, if_holds)

-- The world is safe at a moment, and at every moment, where the tests say so ----------------------

pub safe_tested : (b : BoardValue) (past : List Record) → Safe b past → is_safe b past ≡ true
safe_tested b past s =
    and_from (is_powered b past) _ ((powered_tested b past).1 s.powered)
    (and_from (is_off_stopped b past && is_off_down b past) _ ((off_tested b past).1 s.off)
    (and_from (is_one b past) _ ((one_tested b past).1 s.one)
    (and_from (is_asked b past) _ ((asked_tested b past).1 s.asked)
    (and_from (is_each_open b past && is_each_once b past) _ ((entries_tested b past).1 s.entries)
    ((states_tested b past).1 s.states)))))

pub tested_safe : (b : BoardValue) (past : List Record) → is_safe b past ≡ true → Safe b past
tested_safe b past e =
    grind (
      arith,
      nat_tests,
      and_parts,
      powered_tested,
      off_tested,
      one_tested,
      asked_tested,
      entries_tested,
      states_tested,
    )

pub always_tested : (b : BoardValue) (past : List Record)
    → (is_always_safe b past ≡ true) ↔ AlwaysSafe b past
always_tested b [] = (tested_safe b [], safe_tested b [])
always_tested b (r ∷ past) = (
  (λ e. let both = and_parts (is_safe b (r ∷ past)) (is_always_safe b past) e in
      (tested_safe b (r ∷ past) both.0, (always_tested b past).0 both.1)),
  λ h. and_from (is_safe b (r ∷ past)) (is_always_safe b past)
      (safe_tested b (r ∷ past) h.0) ((always_tested b past).1 h.1),
)
