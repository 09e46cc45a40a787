-- Why an OS-initiated request is refused, exactly.
use Rattle.std.specs.Prelude.{nat_lt}
use Rattle.std.proofs.Common.{◌*◌}
use Rattle.psci_board.specs.Board.{span, up}
use Rattle.psci_messages.specs.Claim.{answer_by, last_core_check, refusal, shallow, shallow_at}
use Rattle.psci_messages.specs.View.{is_idle}
use Rattle.psci_messages.specs.declared.osi.Osi.TheVariants.{Denied, Invalid}
use Rattle.psci_fw_laws.specs.Beside.{AreAwake, HasSleeper, IsInTheWay, NobodyAwake}
use Rattle.psci_fw_laws.specs.Messages.{known_below}
use Rattle.psci_fw_laws.proofs.StoppingBy.{any-flat_map, is_beside, shallow_at-any, some-any}
use Rattle.psci_fw_laws.proofs.Words.{◌+◌, ◌-◌, ◌<◌, ◌==◌, ◌∙◌, ◌∷◌, ◌≡◌, ◌≤◌, [], and_from}
use Rattle.psci_fw_laws.proofs.Words.{and_parts, ap, arith, below, BoardValue, Bool, cases_Bool}
use Rattle.psci_fw_laws.proofs.Words.{cases_eq, ChildLaws, children_at, cond, cores, eq-eqb}
use Rattle.psci_fw_laws.proofs.Words.{eqb-true, Err, false, filter, first_child, height, inl}
use Rattle.psci_fw_laws.proofs.Words.{inr, length, List, list_all, list_any, lt-ltb, ltb-true}
use Rattle.psci_fw_laws.proofs.Words.{nat_tests, ne_eqb, Node, nodes, None, not, Ok, own_claims}
use Rattle.psci_fw_laws.proofs.Words.{own_wish, Part, PathLaws, PowerView, range_with_len, refl}
use Rattle.psci_fw_laws.proofs.Words.{slice_index, Some, SpanLaws, subst, suc, sum_by}
use Rattle.psci_fw_laws.proofs.Words.{sum_by-cons, sym, true, zero, ℕ}

-- Tests over numbers in a row: one that passes somewhere, and one that passes everywhere ----------

-- A number in this row that passes a test.
pub record HasOne (p : ℕ → Bool) (a count : ℕ) : Type 0 where
  pub number : ℕ
  pub low : a ≤ number
  pub high : number < a + count
  pub at : p number ≡ true

pub any_one : (p : ℕ → Bool) (a count : ℕ) → list_any p (range_with_len a count) ≡ true
    → HasOne p a count
any_one p a zero e = absurd (cc)
any_one p a (suc count) e = search (arith, any_one p (a + 1) count)

pub one_any : (p : ℕ → Bool) (a count k : ℕ) → a ≤ k → k < a + count → p k ≡ true
    → list_any p (range_with_len a count) ≡ true
one_any p a zero k low high e = absurd (omega arith)
one_any p a (suc count) k low high e = grind (arith, one_any p (a + 1) count k)

pub all_one : (p test : ℕ → Bool) (a count c : ℕ)
    → list_all p (filter test (range_with_len a count)) ≡ true → a ≤ c → c < a + count
    → test c ≡ true → p c ≡ true
all_one p test a zero c e low high t = absurd (omega arith)
all_one p test a (suc count) c e low high t = grind (arith, all_one p test (a + 1) count c)

pub one_all : (p test : ℕ → Bool) (a count : ℕ)
    → ((c : ℕ) → a ≤ c → c < a + count → test c ≡ true → p c ≡ true)
    → list_all p (filter test (range_with_len a count)) ≡ true
one_all p test a zero each = refl
one_all p test a (suc count) each = grind (arith, one_all p test (a + 1) count)

-- Refusing ----------------------------------------------------------------------------------------

-- Domains in the way ----------------------------------------------------------------------------

-- A domain in the way of a request that passes a test.
record HasWay (b : BoardValue) (v : PowerView) (caller : ℕ) (ask : List ℕ) (f : Node → Bool)
    : Type 0 where
  pub level : ℕ
  pub core : ℕ
  pub way : IsInTheWay b v caller ask level core
  pub at : f (record { level = level; place = up b level core }) ≡ true

module _ (b : BoardValue) (v : PowerView) (caller : ℕ) (ask : List ℕ) (paths : PathLaws b)
    (kids : ChildLaws b) (f : Node → Bool) where
  -- a test passes where it passes at a domain in the way
  way_any : (level c : ℕ) → IsInTheWay b v caller ask level c
      → f (record { level = level; place = up b level c }) ≡ true
      → list_any f (shallow b v caller ask) ≡ true
  unfolding shallow
  way_any level c way at =
      let top : ℕ = up b (suc level) caller in
      let under : suc level - 1 ≡ level = omega arith in
      let first = subst (λ p. first_child b (suc level) p ≤ up b level c) way.joined
      (kids.first c level way.core way.low) in
      let last = subst
      (λ p. up b level c < first_child b (suc level) p + children_at b (suc level) p) way.joined
      (kids.last c level way.core way.low) in
      let test = and_from _ _ (ap not (ne_eqb (up b level c) (up b level caller) way.apart))
      (and_from _ _ (lt-ltb _ _ way.less) at) in
      any-flat_map f (shallow_at b v caller ask) (range_with_len 1 (height b))
      ∙ one_any (λ k. list_any f (shallow_at b v caller ask k)) 1 (height b) (suc level)
      (omega arith) (omega (arith, way.low))
      (shallow_at-any b v f caller ask (suc level) level under
      ∙ one_any (is_beside v f level (up b level caller) (own_wish ask (suc level)))
      (first_child b (suc level) top) (children_at b (suc level) top) (up b level c) first last
      test)

  -- and where it passes, there is such a domain
  way_at : (k : ℕ) → 1 ≤ k → k < 1 + height b
      → list_any f (shallow_at b v caller ask k) ≡ true → HasWay b v caller ask f
  way_at zero low high e = absurd (omega (arith, low))
  way_at (suc level) low high e =
      let top : ℕ = up b (suc level) caller in
      let start : ℕ = first_child b (suc level) top in
      let under : suc level - 1 ≡ level = omega arith in
      let test : ℕ → Bool = is_beside v f level (up b level caller) (own_wish ask (suc level)) in
      let found : list_any test (range_with_len start (children_at b (suc level) top)) ≡ true =
      subst (λ t. t ≡ true) (shallow_at-any b v f caller ask (suc level) level under) e in
      let one = any_one test start (children_at b (suc level) top) found in
      let i : ℕ = one.number in
      let tests = and_parts (not (i == up b level caller)) _ one.at in
      let rest = and_parts (nat_lt (v.granted level i) (own_wish ask (suc level))) _ tests.1 in
      let below : level < height b = omega (arith, high) in
      let k : ℕ = i - start in
      let flat : start + k ≡ i = omega (arith, one.low) in
      let inside = kids.inside level top k below (omega (arith, one.low, one.high)) in
      let node : Node = record { level = level; place = i } in
      let has = paths.some_core node
      (record { level = omega (arith, below); place = subst (λ j. j < nodes b level) flat inside })
      in
      record {
        level = level;
        core = has.0;
        way = record {
          core = has.1;
          low = below;
          joined = kids.parent has.0 level top has.1 below (omega (arith, one.low, has.2))
              (omega (arith, one.high, has.2));
          apart = λ same.
              let here : (i == up b level caller) ≡ true = eq-eqb _ _ (sym has.2 ∙ same) in
              let no : false ≡ true = sym (ap not here) ∙ tests.0 in
              absurd (cc);
          less = subst (λ j. v.granted level j < slice_index ask (suc level)) (sym has.2)
              (ltb-true _ _ rest.0);
        };
        at = subst (λ j. f (record { level = level; place = j }) ≡ true) (sym has.2) rest.1;
      }

  any_way : list_any f (shallow b v caller ask) ≡ true → HasWay b v caller ask f
  unfolding shallow
  any_way e =
      let one = any_one (λ k. list_any f (shallow_at b v caller ask k)) 1 (height b)
      (sym (any-flat_map f (shallow_at b v caller ask) (range_with_len 1 (height b))) ∙ e) in
      way_at one.number one.low one.high one.at

-- Awake and asleep ------------------------------------------------------------------------------

idle_nobody : (b : BoardValue) (v : PowerView) (level c : ℕ)
    → is_idle b v (record { level = level; place = up b level c }) ≡ true → NobodyAwake b v level c
unfolding is_idle up
idle_nobody b v level c e x on at =
    still (v.is_active x)
    (all_one (λ y. not (v.is_active y)) _ 0 (cores b) x e (omega arith) (omega (arith, on))
    (eq-eqb _ _ at))
  where
    still : (t : Bool) → not t ≡ true → t ≡ false
    still true e = absurd (cc)
    still false e = refl

nobody_idle : (b : BoardValue) (v : PowerView) (level c : ℕ) → NobodyAwake b v level c
    → is_idle b v (record { level = level; place = up b level c }) ≡ true
unfolding is_idle up
nobody_idle b v level c nobody = grind (arith, one_all, nobody, eqb-true)

-- The answers -----------------------------------------------------------------------------------

invalid_by : (idle some : Bool) (parts : List Part)
    → answer_by (cond idle (Some Invalid) (cond some (Some Denied) None)) parts ≡ Err Invalid
    → idle ≡ true
invalid_by idle some parts e = grind (arith, nat_tests)

denied_by : (idle some : Bool) (parts : List Part)
    → answer_by (cond idle (Some Invalid) (cond some (Some Denied) None)) parts ≡ Err Denied
    → (idle ≡ false) × (some ≡ true)
denied_by idle some parts e = grind (arith, nat_tests)

-- whether nobody is awake below some domain in the way; whether something is in the way
abbrev is_asleep : BoardValue → PowerView → ℕ → List ℕ → Bool
is_asleep b v caller ask = list_any (is_idle b v) (shallow b v caller ask)

abbrev is_way : BoardValue → PowerView → ℕ → List ℕ → Bool
is_way b v caller ask = nat_lt 0 (length (shallow b v caller ask))

-- what the check answers by these two tests
answered : (b : BoardValue) (v : PowerView) (caller : ℕ) (ask : List ℕ) (asleep way : Bool)
    → is_asleep b v caller ask ≡ asleep → is_way b v caller ask ≡ way
    → last_core_check b v caller ask
    ≡ answer_by (cond asleep (Some Invalid) (cond way (Some Denied) None))
    (own_claims b v caller ask)
unfolding last_core_check refusal
answered b v caller ask asleep way e f = rw (e, f) refl

module _ (b : BoardValue) (v : PowerView) (caller : ℕ) (ask : List ℕ) (paths : PathLaws b)
    (kids : ChildLaws b) where
  sleeper : HasWay b v caller ask (is_idle b v) → HasSleeper b v caller ask
  sleeper has = grind (arith, nat_tests, idle_nobody)

  none_asleep : (HasSleeper b v caller ask → ⊥) → is_asleep b v caller ask ≡ false
  none_asleep none = grind (arith, cases_Bool, any_way, paths, sleeper)

  some_way : (level c : ℕ) → IsInTheWay b v caller ask level c → is_way b v caller ask ≡ true
  some_way level c way = grind (arith, some-any, way_any, paths, true)

  pub accepted : ((level c : ℕ) → IsInTheWay b v caller ask level c → ⊥)
      → last_core_check b v caller ask ≡ Ok (own_claims b v caller ask)
  accepted free = answered b v caller ask false false
      (none_asleep (λ has. free has.level has.core has.way)) no_way
    where
      no_way : is_way b v caller ask ≡ false
      no_way = elim (cases_Bool (is_way b v caller ask)) [
        | inl found ↦
            let has = any_way b v caller ask paths kids (λ n. true)
            (sym (some-any (shallow b v caller ask)) ∙ found) in
            absurd (free has.level has.core has.way)
        | inr none ↦ none
      ]

  pub invalid_has : last_core_check b v caller ask ≡ Err Invalid → HasSleeper b v caller ask
  invalid_has e =
      let found = invalid_by (is_asleep b v caller ask) (is_way b v caller ask)
      (own_claims b v caller ask)
      (sym (answered b v caller ask (is_asleep b v caller ask) (is_way b v caller ask) refl refl)
      ∙ e) in
      sleeper (any_way b v caller ask paths kids (is_idle b v) found)

  pub has_invalid : HasSleeper b v caller ask → last_core_check b v caller ask ≡ Err Invalid
  has_invalid has =
      answered b v caller ask true (is_way b v caller ask)
      (way_any b v caller ask paths kids (is_idle b v) has.level has.core has.way
      (nobody_idle b v has.level has.core has.asleep)) refl

  pub denied_are : last_core_check b v caller ask ≡ Err Denied → AreAwake b v caller ask
  denied_are e =
      let both = denied_by (is_asleep b v caller ask) (is_way b v caller ask)
      (own_claims b v caller ask)
      (sym (answered b v caller ask (is_asleep b v caller ask) (is_way b v caller ask) refl refl)
      ∙ e) in
      let has = any_way b v caller ask paths kids (λ n. true)
      (sym (some-any (shallow b v caller ask)) ∙ both.1) in
      record {
        level = has.level;
        core = has.core;
        way = has.way;
        each = λ l c way nobody.
            let found = way_any b v caller ask paths kids (is_idle b v) l c way
            (nobody_idle b v l c nobody) in
            let no : false ≡ true = sym both.0 ∙ found in
            absurd (cc);
      }

  pub are_denied : AreAwake b v caller ask → last_core_check b v caller ask ≡ Err Denied
  are_denied are =
      answered b v caller ask false true
      (none_asleep (λ has. are.each has.level has.core has.way has.asleep))
      (some_way are.level are.core are.way)

-- Sums over the cores below a domain --------------------------------------------------------------

-- Sums over the numbers that a filter keeps of a range ---------------------------------------

abbrev kept : (ℕ → ℕ) → (ℕ → Bool) → ℕ → ℕ → ℕ
kept f test a n = sum_by f (filter test (range_with_len a n))

-- of a range that begins one sooner
kept-more : (f : ℕ → ℕ) (test : ℕ → Bool) (a n : ℕ)
    → kept f test a (suc n) ≡ cond (test a) (f a) 0 + kept f test (a + 1) n
kept-more f test a n = grind (arith, cases_Bool, sum_by-cons)

kept_le : (f g : ℕ → ℕ) (test : ℕ → Bool) (a n : ℕ)
    → ((c : ℕ) → a ≤ c → c < a + n → test c ≡ true → f c ≤ g c)
    → kept f test a n ≤ kept g test a n
kept_le f g test a zero h = omega arith
kept_le f g test a (suc n) h = grind (arith, nat_tests, kept-more, kept_le f g test (a + 1) n)

kept_less : (f g : ℕ → ℕ) (test : ℕ → Bool) (a n k : ℕ)
    → ((c : ℕ) → a ≤ c → c < a + n → test c ≡ true → f c ≤ g c)
    → a ≤ k → k < a + n → test k ≡ true → f k < g k
    → kept f test a n < kept g test a n
kept_less f g test a zero k h i j t less = absurd (omega arith)
kept_less f g test a (suc n) k h i j t less =
    grind (arith, nat_tests, cases_eq, kept-more, kept_le, kept_less f g test (a + 1) n k)

-- over more numbers what two functions differ by is no less
kept_gap : (f g : ℕ → ℕ) (s t : ℕ → Bool) (a n : ℕ) → ((c : ℕ) → s c ≡ true → t c ≡ true)
    → ((c : ℕ) → f c ≤ g c)
    → kept g s a n + kept f t a n ≤ kept f s a n + kept g t a n
kept_gap f g s t a zero h i = omega arith
kept_gap f g s t a (suc n) h i = grind (arith, nat_tests, kept-more, kept_gap f g s t (a + 1) n h i)

kept_none : (test : ℕ → Bool) (a n : ℕ) → kept (λ c. 0) test a n ≡ 0
kept_none test a zero = refl
kept_none test a (suc n) = grind (arith, nat_tests, kept-more, kept_none test (a + 1) n)

kept_most : (f : ℕ → ℕ) (test : ℕ → Bool) (a n most : ℕ) → ((c : ℕ) → f c ≤ most)
    → kept f test a n ≤ n * most
kept_most f test a zero most h = omega arith
kept_most f test a (suc n) most h =
    let rest = kept_most f test (a + 1) n most h in
    grind (arith, h a, kept-more f test a n)

-- Below a domain ------------------------------------------------------------------------------

pub known_le : (b : BoardValue) (f g : ℕ → ℕ) (level place : ℕ)
    → ((c : ℕ) → c < cores b → up b level c ≡ place → f c ≤ g c)
    → known_below b f level place ≤ known_below b g level place
unfolding known_below up
known_le b f g level place h = grind (arith, nat_tests, eqb-true, kept_le)

pub known_less : (b : BoardValue) (f g : ℕ → ℕ) (level place k : ℕ)
    → ((c : ℕ) → c < cores b → up b level c ≡ place → f c ≤ g c)
    → k < cores b → up b level k ≡ place → f k < g k
    → known_below b f level place < known_below b g level place
unfolding known_below up
known_less b f g level place k h i at less =
    kept_less f g _ 0 (cores b) k (λ c p q t. h c (omega arith) (eqb-true _ _ t)) (omega arith)
    (omega arith) (eq-eqb _ _ at) less

pub known_same : (b : BoardValue) (f g : ℕ → ℕ) (level place : ℕ)
    → ((c : ℕ) → c < cores b → up b level c ≡ place → f c ≡ g c)
    → known_below b f level place ≡ known_below b g level place
known_same b f g level place h = grind (arith, known_le)

pub known_none : (b : BoardValue) (level place : ℕ) → known_below b (λ c. 0) level place ≡ 0
unfolding known_below
known_none b level place = kept_none _ 0 (cores b)

pub known_most : (b : BoardValue) (f : ℕ → ℕ) (level place most : ℕ) → ((c : ℕ) → f c ≤ most)
    → known_below b f level place ≤ cores b * most
unfolding known_below
known_most b f level place most h = kept_most f _ 0 (cores b) most h

-- what one function is above another, summed, never falls up a path
pub known_gap : (b : BoardValue) (f g : ℕ → ℕ) (core level : ℕ) → PathLaws b
    → ((c : ℕ) → f c ≤ g c)
    → known_below b g level (up b level core) + known_below b f (level + 1) (up b (level + 1) core)
    ≤ known_below b f level (up b level core) + known_below b g (level + 1) (up b (level + 1) core)
unfolding known_below up
known_gap b f g core level paths h =
    let next : level + 1 ≡ suc level = omega arith in
    kept_gap f g _ _ 0 (cores b)
    (λ c t. rw next (eq-eqb _ _ (paths.joined c core level (eqb-true _ _ t)))) h

-- nor does the sum itself
pub known_rises : (b : BoardValue) (f : ℕ → ℕ) (core level : ℕ) → PathLaws b
    → known_below b f level (up b level core)
    ≤ known_below b f (level + 1) (up b (level + 1) core)
known_rises b f core level paths =
    omega (
      arith,
      known_gap b (λ c. 0) f core level paths (λ c. omega arith),
      known_none b level (up b level core),
      known_none b (level + 1) (up b (level + 1) core),
    )

-- a core is the only one below itself
pub known_own : (b : BoardValue) (f : ℕ → ℕ) (c : ℕ) → SpanLaws b.levels → c < cores b
    → known_below b f 0 c ≡ f c
unfolding known_below
known_own b f c spans h =
    let laws = spans.cores (record { level = 0; place = c })
    (record { level = omega arith; place = h }) in
    let one : (span b.levels (record { level = 0; place = c })).count ≡ 1 =
    ap (λ (s : Rattle.psci_board.specs.declared.span.CoreSpan.CoreSpan). s.count) (spans.core c) in
    let alone : below b (record { level = 0; place = c }) ≡ c ∷ [] =
    laws ∙ ap (range_with_len c) one in
    ap (sum_by f) alone ∙ omega (arith, sum_by-cons f c [])
