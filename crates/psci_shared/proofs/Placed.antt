-- Where passes agree with a book and have as many items as it has entries, each place of the book
-- stands in exactly one pass. Of lists of places: where the places of each list rise, no two lists
-- have a place in common, and there are as many as there are places, each place stands in exactly
-- one list, once.
use Rattle.std.specs.Prelude.{◌==◌, count_by, if◌then◌else◌, not, slice_get}
use Rattle.std.proofs.Common.{◌+◌, ◌<◌, ◌∙◌, ◌∷◌, ◌≡◌, ◌≢◌, ◌≤◌, ◌⊎◌, [], arith, drop, false}
use Rattle.std.proofs.Common.{inl, inr, length, List, map, nat_lt, refl, suc, sym, true, zero, ℕ}
use Rattle.std.proofs.lemmas.Bool.{and_parts, cases_eq, cond_both, ltb-false, ltb-true, ne_eqb}
use Rattle.std.proofs.lemmas.Bool.{not-true, or_parts, or_right}
use Rattle.std.proofs.lemmas.List.{length-map}
use Rattle.std.proofs.lemmas.List.Sums.{sum_by-cons}
use Rattle.psci_status.proofs.Past.{same_code}
use Rattle.psci_shared.specs.Places.{Agree, all_apart, AllAgree, AllPlaced, AllRise}
use Rattle.psci_shared.specs.Places.{AllStandFrom, AnyBook, AnyPass, apart, apart_from}
use Rattle.psci_shared.specs.Places.{begins_at, EachOnce, has_place, not_below, places}
use Rattle.psci_shared.specs.Places.{places_of, RisesFrom, StandsAt, times}
use Rattle.psci_shared.specs.Passes.{items_of}
use Rattle.psci_shared.specs.declared.entry.Entry.{Entry}
use Rattle.psci_shared.specs.declared.entry.Item.{Item}

-- Lists that share no place, and rise -------------------------------------------------------------

-- the places rise, none is below the second number, and all are below the first
abbrev Rising : ℕ → ℕ → List ℕ → Type 0
Rising n from [] = Unit {0}
Rising n from (p ∷ ps) = (from ≤ p) × (p < n) × Rising n (p + 1) ps

abbrev AllRising : ℕ → List (List ℕ) → Type 0
AllRising n [] = Unit {0}
AllRising n (ps ∷ pss) = Rising n 0 ps × AllRising n pss

-- how many places there are in all
abbrev total : List (List ℕ) → ℕ
total [] = 0
total (ps ∷ pss) = length ps + total pss

-- How often a place stands in them ----------------------------------------------------------------

abbrev once : ℕ → ℕ → ℕ
once p k = if p == k then 1 else 0

abbrev in_list : ℕ → List ℕ → ℕ
in_list k [] = 0
in_list k (p ∷ ps) = once p k + in_list k ps

abbrev in_lists : ℕ → List (List ℕ) → ℕ
in_lists k [] = 0
in_lists k (ps ∷ pss) = in_list k ps + in_lists k pss

count_is : (k : ℕ) (ps : List ℕ) → count_by (λ p. p == k) ps ≡ in_list k ps
count_is k [] = refl
count_is k (p ∷ ps) =
    omega (arith, sum_by-cons (λ (q : ℕ). if q == k then 1 else 0) p ps, count_is k ps)

times_is : (k : ℕ) (pss : List (List ℕ)) → times k pss ≡ in_lists k pss
times_is k [] = refl
times_is k (ps ∷ pss) =
    omega (
      arith,
      sum_by-cons (λ (qs : List ℕ). count_by (λ p. p == k) qs) ps pss,
      count_is k ps,
      times_is k pss,
    )

once_is : (p k : ℕ) → ((p ≡ k) × (once p k ≡ 1)) ⊎ ((p ≢ k) × (once p k ≡ 0))
once_is p k = elim (cases_eq p k) [
  | inl e ↦ inl (e, rw (e, same_code k) refl)
  | inr ne ↦ inr (ne, rw (ne_eqb p k ne) refl)
]

-- No place stands in them twice -------------------------------------------------------------------

past : (n from : ℕ) (ps : List ℕ) (k : ℕ) → Rising n from ps → k < from → in_list k ps ≡ 0
past n from [] k h lt = refl
past n from (p ∷ ps) k h lt =
    let low : from ≤ p = h.0 in
    omega (arith, once_is p k, past n (p + 1) ps k h.2 (omega arith))

one_list : (n from : ℕ) (ps : List ℕ) (k : ℕ) → Rising n from ps → in_list k ps ≤ 1
one_list n from [] k h = omega arith
one_list n from (p ∷ ps) k h = elim (once_is p k) [
  | inl same ↦ omega (arith, past n (p + 1) ps k h.2 (omega arith))
  | inr other ↦ omega (arith, one_list n (p + 1) ps k h.2)
]

not_has : (k : ℕ) (ps : List ℕ) → has_place k ps ≡ false → in_list k ps ≡ 0
not_has k [] e = refl
not_has k (p ∷ ps) e =
    let parts = or_parts (p == k) (has_place k ps) e in
    let a : once p k ≡ 0 = rw parts.0 refl in omega (arith, a, not_has k ps parts.1)

in_other : (k : ℕ) (ps qs : List ℕ) → apart ps qs ≡ true → 1 ≤ in_list k ps → in_list k qs ≡ 0
in_other k [] qs e here = omega arith
in_other k (p ∷ ps) qs e here =
    let parts = and_parts (not (has_place p qs)) (apart ps qs) e in
    elim (once_is p k) [
      | inl same ↦ not_has k qs (rw same.0 at (not-true (has_place p qs) parts.0))
      | inr other ↦ in_other k ps qs parts.1 (omega arith)
    ]

in_others : (k : ℕ) (ps : List ℕ) (qss : List (List ℕ)) → apart_from ps qss ≡ true
    → 1 ≤ in_list k ps → in_lists k qss ≡ 0
in_others k ps [] e here = refl
in_others k ps (qs ∷ qss) e here =
    let parts = and_parts (apart ps qs) (apart_from ps qss) e in
    omega (arith, in_other k ps qs parts.0 here, in_others k ps qss parts.1 here)

most_once : (n : ℕ) (pss : List (List ℕ)) (k : ℕ) → AllRising n pss → all_apart pss ≡ true
    → in_lists k pss ≤ 1
most_once n [] k h e = omega arith
most_once n (ps ∷ pss) k h e =
    let parts = and_parts (apart_from ps pss) (all_apart pss) e in
    let other = in_others k ps pss parts.0 in
    grind (arith, one_list n 0 ps k h.0, most_once n pss k h.1 parts.1, other)

-- Sums over all places ----------------------------------------------------------------------------

-- the sum of f over the numbers below n
abbrev up : (ℕ → ℕ) → ℕ → ℕ
up f zero = 0
up f (suc n) = f n + up f n

up_none : (n : ℕ) → up (λ k. 0) n ≡ 0
up_none zero = refl
up_none (suc n) = omega (arith, up_none n)

up_both : (f g : ℕ → ℕ) (n : ℕ) → up (λ k. f k + g k) n ≡ up f n + up g n
up_both f g zero = refl
up_both f g (suc n) = omega (arith, up_both f g n)

up_past : (p n : ℕ) → n ≤ p → up (once p) n ≡ 0
up_past p zero h = refl
up_past p (suc n) h = omega (arith, once_is p n, up_past p n (omega arith))

up_once : (p n : ℕ) → p < n → up (once p) n ≡ 1
up_once p zero h = absurd (omega arith)
up_once p (suc n) h = elim (once_is p n) [
  | inl same ↦ omega (arith, up_past p n (omega arith))
  | inr other ↦ omega (arith, up_once p n (omega arith))
]

up_list : (n from : ℕ) (ps : List ℕ) → Rising n from ps → up (λ k. in_list k ps) n ≡ length ps
up_list n from [] h = up_none n
up_list n from (p ∷ ps) h =
    omega (arith, up_both (once p) (λ k. in_list k ps) n, up_once p n h.1, up_list n (p + 1) ps h.2)

up_lists : (n : ℕ) (pss : List (List ℕ)) → AllRising n pss → up (λ k. in_lists k pss) n ≡ total pss
up_lists n [] h = up_none n
up_lists n (ps ∷ pss) h =
    omega (
      arith,
      up_both (λ k. in_list k ps) (λ k. in_lists k pss) n,
      up_list n 0 ps h.0,
      up_lists n pss h.1,
    )

-- Each place stands in them once ------------------------------------------------------------------

up_small : (f : ℕ → ℕ) → ((k : ℕ) → f k ≤ 1) → (n : ℕ) → up f n ≤ n
up_small f small zero = omega arith
up_small f small (suc n) = omega (arith, small n, up_small f small n)

exactly : (f : ℕ → ℕ) → ((k : ℕ) → f k ≤ 1) → (n : ℕ) → up f n ≡ n → (k : ℕ) → k < n → f k ≡ 1
exactly f small zero e k lt = absurd (omega arith)
exactly f small (suc n) e k lt =
    let a : f n ≤ 1 = small n in
    let b : up f n ≤ n = up_small f small n in
    elim (cases_eq k n) [
      | inl is ↦ rw is (omega arith)
      | inr ne ↦ exactly f small n (omega arith) k (omega arith)
    ]

each_once : (n : ℕ) (pss : List (List ℕ)) → AllRising n pss → all_apart pss ≡ true
    → total pss ≡ n → EachOnce n pss
each_once n pss rise apart full place lt =
    times_is place pss
    ∙ exactly (λ k. in_lists k pss) (λ k. most_once n pss k rise apart) n
    (up_lists n pss rise ∙ full) place lt

-- The places of passes ----------------------------------------------------------------------------

found : {W C R : Type 0} (entries : List (Entry W C R)) (place : ℕ) (core : W) (i : Item C R)
    → StandsAt (slice_get entries place) core i → place < length entries
found [] place core i h = absurd h
found (e ∷ es) zero core i h = omega arith
found (e ∷ es) (suc place) core i h = omega (arith, found es place core i h)

rises : {W C R : Type 0} (entries : List (Entry W C R)) (core : W) (from : ℕ) (is : List (Item C R))
    → AllStandFrom entries core from is → Rising (length entries) from (places is)
rises entries core from [] h = tt
rises entries core from (i ∷ is) h =
    (h.0.0, found entries i.place core i h.0.1, rises entries core (i.place + 1) is h.1)

all_rise : {W S C R : Type 0} (b : AnyBook W C R) (ps : List (AnyPass W S C R)) → AllAgree b ps
    → AllRising (length b.entries) (map places_of ps)
all_rise b [] h = tt
all_rise b (p ∷ ps) h = (rises b.entries p.core 0 p.items h.0.1, all_rise b ps h.1)

-- the places of a pass that agrees rise
stand_rise : {W C R : Type 0} (entries : List (Entry W C R)) (core : W) (from : ℕ)
    (is : List (Item C R)) → AllStandFrom entries core from is → RisesFrom from (places is)
stand_rise entries core from [] h = tt
stand_rise entries core from (i ∷ is) h =
    (h.0.0, stand_rise entries core (i.place + 1) is h.1)

pub agree_rise : {W S C R : Type 0} (b : AnyBook W C R) (ps : List (AnyPass W S C R))
    → AllAgree b ps → AllRise (map places_of ps)
agree_rise b [] h = tt
agree_rise b (p ∷ ps) h = (stand_rise b.entries p.core 0 p.items h.0.1, agree_rise b ps h.1)

total_same : {W S C R : Type 0} (ps : List (AnyPass W S C R))
    → total (map places_of ps) ≡ items_of ps
total_same {W} {S} {C} {R} [] = refl
total_same {W} {S} {C} {R} (p ∷ ps) =
    omega (
      arith,
      sum_by-cons (λ (q : AnyPass W S C R). length q.items) p ps,
      length-map p.items (λ (i : Item C R). i.place),
      total_same ps,
    )

pub all_placed : {W S C R : Type 0} (b : AnyBook W C R) (ps : List (AnyPass W S C R)) → Agree b ps
    → length b.entries ≡ items_of ps → AllPlaced b ps
all_placed b ps h full =
    each_once (length b.entries) (map places_of ps) (all_rise b ps h.0)
    h.1 (total_same ps ∙ sym full)

-- Two lists of places that rise are walked through together ---------------------------------------

-- the places from here on, where this item is the first of the rest
pub places_at : {C R : Type 0} (items rest : List (Item C R)) (x it : Item C R) (from : ℕ)
    → drop from items ≡ x ∷ rest → it ≡ x → places (drop from items) ≡ it.place ∷ places rest
places_at items rest x it from at is = rw (at, is) refl

pub rises_low : (from : ℕ) (ps : List ℕ) → RisesFrom from ps → RisesFrom 0 ps
rises_low from [] rises = tt
rises_low from (p ∷ ps) rises = (omega arith, rises.1)

above : (p from : ℕ) (qs : List ℕ) → RisesFrom from qs → p < from → has_place p qs ≡ false
above p from [] rises low = refl
above p from (q ∷ qs) rises low =
    let high : from ≤ q = rises.0 in
    rw (ne_eqb q p (λ (e : q ≡ p). omega arith)) (above p (q + 1) qs rises.1 (omega arith))

-- a place that is below all of a list may be left out of the other one
drop_other : (q from : ℕ) (ps qs : List ℕ) → RisesFrom from ps → q < from
    → apart ps (q ∷ qs) ≡ apart ps qs
drop_other q from [] qs rises low = refl
drop_other q from (p ∷ ps) qs rises low =
    let high : from ≤ p = rises.0 in
    rw (ne_eqb q p (λ (e : q ≡ p). omega arith), drop_other q (p + 1) ps qs rises.1 (omega arith))
    refl

pub left_rises : (p from : ℕ) (qs : List ℕ) → RisesFrom from qs → RisesFrom 0 (not_below p qs)
left_rises p from [] rises = tt
left_rises p from (q ∷ qs) rises =
    cond_both (nat_lt q p) _ _ (RisesFrom 0) (λ t. left_rises p (q + 1) qs rises.1)
    (λ t. (omega arith, rises.1))

has : (p : ℕ) (qs : List ℕ) → begins_at p (not_below p qs) ≡ true → has_place p qs ≡ true
has p [] is = is
has p (q ∷ qs) is =
    cond_both (nat_lt q p) (not_below p qs) (q ∷ qs)
    (λ (l : List ℕ). begins_at p l ≡ true → has_place p (q ∷ qs) ≡ true)
    (λ t first. or_right (q == p) _ (has p qs first)) (λ t first. rw first refl) is

-- the place is in both
pub meets : (p : ℕ) (ps qs : List ℕ) → begins_at p (not_below p qs) ≡ true
    → apart (p ∷ ps) qs ≡ false
meets p ps qs is = rw (has p qs is) refl

-- it is not in the other list, of which what is below it may be left out for what follows
pub goes_on : (p from : ℕ) (ps qs : List ℕ) → RisesFrom (p + 1) ps → RisesFrom from qs
    → begins_at p (not_below p qs) ≡ false
    → apart (p ∷ ps) qs ≡ apart ps (not_below p qs)
goes_on p from ps [] ones others other = refl
goes_on p from ps (q ∷ qs) ones others other =
    cond_both (nat_lt q p) (not_below p qs) (q ∷ qs)
    (λ (l : List ℕ). begins_at p l ≡ false → apart (p ∷ ps) (q ∷ qs) ≡ apart ps l)
    (λ t rest. drop_other q p (p ∷ ps) qs (omega arith, ones) (ltb-true q p t)
    ∙ goes_on p (q + 1) ps qs ones others.1 rest)
    (λ t rest. let more = ltb-false q p t in
    rw (rest, above p (q + 1) qs others.1 (omega (arith, more))) refl) other
