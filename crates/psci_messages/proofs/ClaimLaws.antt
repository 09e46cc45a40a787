-- What holds of every claim, and of those of platform-coordinated mode.
use Rattle.std.specs.List.{range_with_len}
use Rattle.std.specs.Prelude.{flat_map, nat_lt, not, Option, slice_get, slice_index}
use Rattle.std.proofs.Common.{◌++◌, ◌+◌, ◌-◌, ◌<◌, ◌==◌, ◌∙◌, ◌≡◌, ◌≤◌, [], ap, arith, Bool}
use Rattle.std.proofs.Common.{false, filter, inl, inr, length, List, map, None, Ok, refl, Some}
use Rattle.std.proofs.Common.{suc, sym, true, zero, ℕ}
use Rattle.std.proofs.Math.Nat.{eq-zero-or-pos}
use Rattle.std.proofs.lemmas.Bool.{cases_eq, eq-eqb, eqb-true, false_from_ne_true, lt-ltb}
use Rattle.std.proofs.lemmas.Bool.{ltb-false}
use Rattle.std.proofs.lemmas.Bool.Decides.{nat_tests}
use Rattle.std.proofs.lemmas.List.{length-append, nil_from_length}
use Rattle.std.proofs.lemmas.List.Concat.{flat_map-cons}
use Rattle.std.proofs.lemmas.Option.{slice_get_within}
use Rattle.psci_board.specs.Board.{BoardValue, ChildLaws, children_at, cores, first_child}
use Rattle.psci_board.specs.Board.{height, PathLaws, up}
use Rattle.psci_board.specs.declared.draft.Node.{Node}
use Rattle.psci_state.specs.PowerState.{IsAsk, least}
use Rattle.psci_messages.specs.Claim.{answer_by, ClaimLaws, claims_of, climb, GrantsAreAsked}
use Rattle.psci_messages.specs.Claim.{last_core_check, LastCoreLaws, least_wish, own_claims}
use Rattle.psci_messages.specs.Claim.{own_wish, PlatformLaws, refusal, shallow, shallow_at}
use Rattle.psci_messages.specs.View.{domain_of, generation, least_ask, PowerView}
use Rattle.psci_messages.specs.declared.osi.Osi.{Osi}
use Rattle.psci_messages.specs.declared.part.Part.{Part}

-- The least ask below a domain --------------------------------------------------------------------

-- Over some numbers ------------------------------------------------------------------------------

-- the least of these numbers that pass a test
abbrev least_of : (ℕ → ℕ) → (ℕ → Bool) → ℕ → ℕ → ℕ
least_of f test a n = least (map f (filter test (range_with_len a n)))

least-most : (f : ℕ → ℕ) (test : ℕ → Bool) (a n : ℕ) → least_of f test a n ≤ 3
least-most f test a zero = omega arith
least-most f test a (suc n) = grind (arith, nat_tests, least-most f test (a + 1) n)

least-below : (f : ℕ → ℕ) (test : ℕ → Bool) (a n c : ℕ) → a ≤ c → c < a + n → test c ≡ true
    → least_of f test a n ≤ f c
least-below f test a zero c h i e = absurd (omega arith)
least-below f test a (suc n) c h i e = grind (arith, nat_tests, least-below f test (a + 1) n c)

-- what is at most each of them, and 3, is at most the least
least-above : (f : ℕ → ℕ) (test : ℕ → Bool) (a n m : ℕ) → m ≤ 3
    → ((c : ℕ) → a ≤ c → c < a + n → test c ≡ true → m ≤ f c)
    → m ≤ least_of f test a n
least-above f test a zero m h each = h
least-above f test a (suc n) m h each = grind (arith, nat_tests, least-above f test (a + 1) n m h)

-- where the least is 0, one of them is
least-zero : (f : ℕ → ℕ) (test : ℕ → Bool) (a n : ℕ) → least_of f test a n ≡ 0
    → (c : ℕ) × (a ≤ c) × (c < a + n) × (test c ≡ true) × (f c ≡ 0)
least-zero f test a zero e = absurd (omega arith)
least-zero f test a (suc n) e =
    grind (arith, nat_tests, eq-zero-or-pos, least-zero f test (a + 1) n)

-- Below a core's domain of a level ---------------------------------------------------------------

pub least_ask-most : (b : BoardValue) (v : PowerView) (core level : ℕ)
    → least_ask b v (domain_of b core level) ≤ 3
unfolding least_ask
least_ask-most b v core level = least-most (λ c. v.ask c level) _ 0 (cores b)

pub least_ask-below : (b : BoardValue) (v : PowerView) (core level c : ℕ) → c < cores b
    → up b level c ≡ up b level core → least_ask b v (domain_of b core level) ≤ v.ask c level
unfolding least_ask up
least_ask-below b v core level c h e =
    least-below (λ c. v.ask c level) _ 0 (cores b) c (omega arith) (omega arith) (eq-eqb _ _ e)

pub least_ask-above : (b : BoardValue) (v : PowerView) (core level m : ℕ) → m ≤ 3
    → ((c : ℕ) → c < cores b → up b level c ≡ up b level core → m ≤ v.ask c level)
    → m ≤ least_ask b v (domain_of b core level)
unfolding least_ask up
least_ask-above b v core level m h each = grind (arith, nat_tests, least-above, eqb-true)

pub least_ask-zero : (b : BoardValue) (v : PowerView) (core level : ℕ)
    → least_ask b v (domain_of b core level) ≡ 0
    → (c : ℕ) × (c < cores b) × (up b level c ≡ up b level core) × (v.ask c level ≡ 0)
unfolding least_ask up
least_ask-zero b v core level e = grind (arith, nat_tests, least-zero, eqb-true)

-- A claim is made going up, one level after another -----------------------------------------------

-- Laws of a climb -----------------------------------------------------------------------------

pub climb-levels : (wanted gs : ℕ → ℕ) (level count : ℕ)
    → map (λ p. p.level) (climb wanted gs level count)
    ≡ range_with_len level (length (climb wanted gs level count))
climb-levels wanted gs level zero = refl
climb-levels wanted gs level (suc count) =
    grind (arith, nat_tests, eq-zero-or-pos, lt-ltb, climb-levels wanted gs (level + 1) count)

pub climb-few : (wanted gs : ℕ → ℕ) (level count : ℕ)
    → length (climb wanted gs level count) ≤ count
climb-few wanted gs level zero = omega arith
climb-few wanted gs level (suc count) =
    grind (arith, nat_tests, eq-zero-or-pos, lt-ltb, climb-few wanted gs (level + 1) count)

-- what is said of the part of a level
pub record IsPartAt (wanted gs : ℕ → ℕ) (m : ℕ) (p : Part) : Type 0 where
  pub level : p.level ≡ m
  pub depth : p.depth ≡ wanted m
  pub generation : p.generation ≡ gs m
  pub some : 0 < p.depth

climb-first : (wanted gs : ℕ → ℕ) (m : ℕ) (p q : Part) → 0 < wanted m
    → q ≡ record { level = m; depth = wanted m; generation = gs m } → Some q ≡ Some p
    → IsPartAt wanted gs m p
climb-first wanted gs m p q h e same =
    let is : p ≡ record { level = m; depth = wanted m; generation = gs m } = cc (e, same) in
    rw is (record { level = refl; depth = refl; generation = refl; some = h })

-- the part at a place of a climb
pub climb-part : (wanted gs : ℕ → ℕ) (level count k m : ℕ) (p : Part) → m ≡ level + k
    → slice_get (climb wanted gs level count) k ≡ Some p → IsPartAt wanted gs m p
climb-part wanted gs level zero k m p at e = cc e
climb-part wanted gs level (suc count) zero m p at e =
    grind (arith, nat_tests, eq-zero-or-pos, lt-ltb, climb-first)
climb-part wanted gs level (suc count) (suc k) m p at e =
    grind (arith, nat_tests, eq-zero-or-pos, lt-ltb, climb-part wanted gs (level + 1) count k m p)

-- a climb that ends early ends where none is wanted
pub climb-ends-at : (wanted gs : ℕ → ℕ) (level count m : ℕ)
    → m ≡ level + length (climb wanted gs level count)
    → length (climb wanted gs level count) < count → wanted m ≡ 0
climb-ends-at wanted gs level zero m at h = absurd (omega arith)
climb-ends-at wanted gs level (suc count) m at h =
    grind (arith, nat_tests, eq-zero-or-pos, lt-ltb, climb-ends-at wanted gs (level + 1) count m)

-- Every claim -------------------------------------------------------------------------------------

pub claim_laws : (b : BoardValue) (v : PowerView) (core : ℕ) (wanted : ℕ → ℕ)
    → ClaimLaws b v core wanted
unfolding claims_of
claim_laws b v core wanted =
    let gs : ℕ → ℕ = λ level. generation b v (domain_of b core level) in
    let count : ℕ = height b + 1 in
    record {
      levels = climb-levels wanted gs 0 count;
      few = climb-few wanted gs 0 count;
      level = λ l p e. (climb-part wanted gs 0 count l l p (omega arith) e).level;
      depth = λ l p e. (climb-part wanted gs 0 count l l p (omega arith) e).depth;
      generation = λ l p e. (climb-part wanted gs 0 count l l p (omega arith) e).generation;
      some = λ l p e. (climb-part wanted gs 0 count l l p (omega arith) e).some;
      ends = λ h. climb-ends-at wanted gs 0 count _ (omega arith) h;
    }

-- what the parts of a level are, by the laws of every claim
pub platform_laws : (b : BoardValue) (v : PowerView) (core : ℕ) → PathLaws b → core < cores b
    → PlatformLaws b v core
platform_laws b v core paths h =
    let laws = claim_laws b v core (least_wish b v core) in
    record {
      most = λ l p e. rw (laws.depth l p e) (least_ask-most b v core l);
      asked = λ l c p e i at. rw (laws.depth l p e) (least_ask-below b v core l c i at);
      ends = λ few. least_ask-zero b v core _ (laws.ends few);
      falls = λ asks l p q e f.
          let inside : l < height b =
          omega (
            arith,
            slice_get_within (claims_of b v core (least_wish b v core)) (l + 1) q f,
            laws.few,
          ) in
          rw (laws.depth l p e, laws.depth (l + 1) q f)
          (least_ask-above b v core l (least_ask b v (domain_of b core (l + 1)))
          (least_ask-most b v core (l + 1)) (λ c i at.
          let next : l + 1 ≡ suc l = omega arith in
          let joined : up b (l + 1) c ≡ up b (l + 1) core = rw next (paths.joined c core l at) in
          let above = least_ask-below b v core (l + 1) c i joined in
          omega (arith, above, asks.falls c l i inside)));
    }

-- What an OS-initiated request that is accepted says of the cores beside the caller ---------------

-- Lists without elements -------------------------------------------------------------------------

none_in_front : (xs ys : List Node) → xs ++ ys ≡ [] → (xs ≡ []) × (ys ≡ [])
none_in_front xs ys e =
    let both = ap length e in (
      nil_from_length xs (omega (arith, both, length-append xs ys)),
      nil_from_length ys (omega (arith, both, length-append xs ys)),
    )

flat_map-none : (f : ℕ → List Node) (a n k : ℕ) → flat_map f (range_with_len a n) ≡ [] → a ≤ k
    → k < a + n → f k ≡ []
flat_map-none f a zero k e h i = absurd (omega arith)
flat_map-none f a (suc n) k e h i =
    grind (arith, nat_tests, none_in_front, flat_map-cons, flat_map-none f (a + 1) n k)

-- none of some domains passes both tests
filters-none : (p q : Node → Bool) (g : ℕ → Node) (a n k : ℕ)
    → filter p (filter q (map g (range_with_len a n))) ≡ [] → a ≤ k → k < a + n
    → q (g k) ≡ true → p (g k) ≡ false
filters-none p q g a zero k e h i t = absurd (omega arith)
filters-none p q g a (suc n) k e h i t = grind (arith, filters-none p q g (a + 1) n k)

-- Accepted requests ------------------------------------------------------------------------------

refusal-none : (b : BoardValue) (v : PowerView) (ns : List Node) → refusal b v ns ≡ None → ns ≡ []
unfolding refusal
refusal-none b v ns e = grind (arith, nat_tests, nil_from_length ns)

answered : (o : Option Osi) (parts claim : List Part) → answer_by o claim ≡ Ok parts
    → (o ≡ None) × (parts ≡ claim)
answered None parts claim e = (refl, cc e)
answered (Some fault) parts claim e = absurd (cc e)

accepted : (b : BoardValue) (v : PowerView) (core : ℕ) (ask : List ℕ) (parts : List Part)
    → last_core_check b v core ask ≡ Ok parts
    → (shallow b v core ask ≡ []) × (parts ≡ own_claims b v core ask)
unfolding last_core_check
accepted b v core ask parts e = grind (arith, nat_tests, answered, refusal-none)

granted_beside : (b : BoardValue) (v : PowerView) (core : ℕ) (ask : List ℕ) (level c : ℕ)
    → PathLaws b → ChildLaws b → shallow b v core ask ≡ [] → c < cores b → level < height b
    → up b (suc level) c ≡ up b (suc level) core → (up b level c ≡ up b level core → ⊥)
    → slice_index ask (suc level) ≤ v.granted level (up b level c)
unfolding shallow shallow_at
granted_beside b v core ask level c paths child none h i joined apart =
    let here = flat_map-none (shallow_at b v core ask) 1 (height b) (suc level) none (omega arith)
    (omega arith) in
    let down : suc level - 1 ≡ level = omega arith in
    let first : first_child b (suc level) (up b (suc level) core) ≤ up b level c =
    rw (← joined) (child.first c level h i) in
    let last : up b level c < first_child b (suc level) (up b (suc level) core)
    + children_at b (suc level) (up b (suc level) core) =
    rw (← joined) (child.last c level h i) in
    let other : not (up b level c == up b (suc level - 1) core) ≡ true =
    rw (
      down,
      false_from_ne_true (up b level c == up b level core) (λ same. apart (eqb-true _ _ same)),
    ) refl in
    let test = filters-none (λ n. nat_lt (v.granted n.level n.place) (slice_index ask (suc level)))
    (λ n. not (n.place == up b (suc level - 1) core))
    (λ place. record { level = suc level - 1; place = place })
    (first_child b (suc level) (up b (suc level) core))
    (children_at b (suc level) (up b (suc level) core)) (up b level c) here first last other in
    let told = rw down at test in
    ltb-false (v.granted level (up b level c)) (slice_index ask (suc level)) told

-- what was granted to a core's domain of a level is at most what was granted to the core
granted_below : (b : BoardValue) (v : PowerView) (level c : ℕ) → PathLaws b → GrantsAreAsked b v
    → c < cores b → level ≤ height b → v.granted level (up b level c) ≤ v.granted 0 c
granted_below b v zero c paths grants h i = grind (arith, nat_tests)
granted_below b v (suc level) c paths grants h i =
    grind (arith, nat_tests, granted_below b v level c paths grants h)

-- no level is asked for more than any other core below asks of itself
asked_below : (b : BoardValue) (v : PowerView) (core : ℕ) (ask : List ℕ) (level c : ℕ)
    → PathLaws b → ChildLaws b → IsAsk ask → GrantsAreAsked b v → shallow b v core ask ≡ []
    → c < cores b → level ≤ height b → up b level c ≡ up b level core → (c ≡ core → ⊥)
    → slice_index ask level ≤ v.ask c 0
asked_below b v core ask zero c paths child is grants none h i at apart =
    absurd (apart (sym (paths.core c) ∙ at ∙ paths.core core))
asked_below b v core ask (suc level) c paths child is grants none h i at apart =
    let next : level + 1 ≡ suc level = omega arith in
    let step = is.falls level in
    let falls = rw next at step in
    elim (cases_eq (up b level c) (up b level core)) [
      | inl same ↦ omega (
        arith,
        falls,
        asked_below b v core ask level c paths child is grants none h (omega arith) same apart,
      )
      | inr other ↦ omega (
        arith,
        granted_beside b v core ask level c paths child none h (omega arith) at other,
        granted_below b v level c paths grants h (omega arith),
        grants.asked c h,
      )
    ]

pub last_core_laws : (b : BoardValue) (v : PowerView) (core : ℕ) (ask : List ℕ) → PathLaws b
    → ChildLaws b → LastCoreLaws b v core ask
last_core_laws b v core ask paths child = record {
  parts = λ parts e. (accepted b v core ask parts e).1;
  granted = λ parts e level c h i joined apart.
      let next : level + 1 ≡ suc level = omega arith in
      let together : up b (suc level) c ≡ up b (suc level) core = rw (← next) joined in
      rw next (granted_beside b v core ask level c paths child (accepted b v core ask parts e).0 h i
      together apart);
  asked = λ is grants parts e level c p at h below apart.
      let told = accepted b v core ask parts e in
      let part = rw told.1 at at in
      let laws = claim_laws b v core (own_wish ask) in
      let inside : level ≤ height b =
      omega (arith, slice_get_within (own_claims b v core ask) level p part, laws.few) in
      rw (laws.depth level p part)
      (asked_below b v core ask level c paths child is grants told.0 h inside below apart);
}
