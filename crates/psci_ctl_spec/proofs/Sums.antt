-- The sum of the starts below a domain, which domains are on the path of a core, and what a start
-- of a core changes of depths and generations.
use Rattle.std.specs.List.{range_with_len, sum_by}
use Rattle.std.specs.Prelude.{slice_get}
use Rattle.std.proofs.Common.{◌*◌, ◌++◌, ◌+◌, ◌<◌, ◌==◌, ◌∙◌, ◌∷◌, ◌≡◌, ◌≤◌, ◌⊎◌, [], ap, arith}
use Rattle.std.proofs.Common.{Bool, cond, drop, false, filter, inl, inr, List, None, Option}
use Rattle.std.proofs.Common.{refl, Some, suc, sym, true, zero, ℕ}
use Rattle.std.proofs.lemmas.Bool.{cases_eq, eq-eqb, eqb-true, ne_eqb, true≢false}
use Rattle.std.proofs.lemmas.Bool.Decides.{nat_tests}
use Rattle.std.proofs.lemmas.List.Sums.{prefix_len-le-length, sum_by-cons}
use Rattle.psci_board.specs.Board.{BoardValue, cores, domain_of, height, is_on_path, place_above}
use Rattle.psci_board.specs.Board.{up}
use Rattle.psci_board.specs.declared.draft.Node.{Node}
use Rattle.psci_messages.specs.declared.part.Part.{Part}
use Rattle.psci_ctl_spec.specs.Replies.{Effect, one_more}
use Rattle.psci_ctl_spec.specs.Values.{applied, begins_stale, CtlExchange, is_applied, is_live}
use Rattle.psci_ctl_spec.specs.Values.{is_stale, starts_below, Values}
use Rattle.psci_ctl_spec.specs.History.{AckLaws, effect_in, IsLive, life, life_by, starts}
use Rattle.psci_ctl_spec.specs.History.{starts_by, SumLaws}

-- What the acknowledgement of a Down says of its parts --------------------------------------------

late_at : (b : BoardValue) (v : Values) (c n : ℕ) (ps : List Part)
    → begins_stale b v c (drop n ps) ≡ true
    → (p : Part) × (slice_get ps n ≡ Some p) × (is_live b v c p ≡ false)
late_at b v c zero [] e = absurd (cc e)
late_at b v c (suc n) [] e = absurd (cc e)
late_at b v c zero (p ∷ ps) e = (p, refl, grind arith)
late_at b v c (suc n) (p ∷ ps) e = late_at b v c n ps e

live_at : (b : BoardValue) (v : Values) (c n : ℕ) (ps : List Part) (p : Part)
    → begins_stale b v c (drop n ps) ≡ false → slice_get ps n ≡ Some p
    → is_live b v c p ≡ true
live_at b v c n [] p e at = absurd (grind arith)
live_at b v c zero (q ∷ ps) p e at = grind arith
live_at b v c (suc n) (q ∷ ps) p e at = live_at b v c n ps p e at

pub ack_laws : (b : BoardValue) (v : Values) (c : ℕ) (ps : List Part) → AckLaws b v c ps
unfolding applied is_stale
ack_laws b v c ps = record {
  few = prefix_len-le-length (is_applied b v c ps) ps;
  stale = λ e.
      let late = late_at b v c (applied b v c ps) ps e in (
        late.0,
        late.1,
        λ same. true≢false (sym (eq-eqb late.0.generation
            (starts_below b v.starts (domain_of b c late.0.level)) same) ∙ late.2),
      );
  waits = λ e p at. eqb-true _ _ (live_at b v c (applied b v c ps) ps p e at);
}

-- Sums --------------------------------------------------------------------------------------------

-- Paths ---------------------------------------------------------------------------------------

pub path_place : (b : BoardValue) (c level place : ℕ) → is_on_path b c level place ≡ true
    → up b level c ≡ place
path_place b c level place e = grind (arith, nat_tests)

pub off_path : (b : BoardValue) (c level place : ℕ) → is_on_path b c level place ≡ false
    → level ≤ height b → up b level c ≡ place → ⊥
off_path b c level place e low s = grind (arith, nat_tests)

-- Sums over the numbers that a filter keeps of a range ---------------------------------------

abbrev kept : (ℕ → Bool) → ℕ → ℕ → List ℕ
kept test a n = filter test (range_with_len a n)

kept_le : (f g : ℕ → ℕ) (b : Bool) (a : ℕ) (xs : List ℕ) → f a ≤ g a
    → sum_by f xs ≤ sum_by g xs → sum_by f (cond b (a ∷ xs) xs) ≤ sum_by g (cond b (a ∷ xs) xs)
kept_le f g b a xs h e = grind (arith, sum_by-cons f a xs, sum_by-cons g a xs)

pub sum_le : (f g : ℕ → ℕ) (test : ℕ → Bool) (a n : ℕ) → ((c : ℕ) → f c ≤ g c)
    → sum_by f (kept test a n) ≤ sum_by g (kept test a n)
sum_le f g test a zero h = omega arith
sum_le f g test a (suc n) h =
    kept_le f g (test a) a (kept test (a + 1) n) (h a) (sum_le f g test (a + 1) n h)

kept_most : (f : ℕ → ℕ) (b : Bool) (a n most : ℕ) (xs : List ℕ) → f a ≤ most
    → sum_by f xs ≤ n * most → sum_by f (cond b (a ∷ xs) xs) ≤ suc n * most
kept_most f b a n most xs h e = grind (arith, sum_by-cons f a xs)

sum_most : (f : ℕ → ℕ) (most : ℕ) (test : ℕ → Bool) (a n : ℕ) → ((c : ℕ) → f c ≤ most)
    → sum_by f (kept test a n) ≤ n * most
sum_most f most test a zero h = omega arith
sum_most f most test a (suc n) h =
    kept_most f (test a) a n most (kept test (a + 1) n) (h a) (sum_most f most test (a + 1) n h)

kept_same : (f g : ℕ → ℕ) (b : Bool) (a : ℕ) (xs : List ℕ) → (b ≡ true → f a ≡ g a)
    → sum_by f xs ≡ sum_by g xs → sum_by f (cond b (a ∷ xs) xs) ≡ sum_by g (cond b (a ∷ xs) xs)
kept_same f g b a xs h e = grind (arith, sum_by-cons f a xs, sum_by-cons g a xs)

pub sum_same : (f g : ℕ → ℕ) (test : ℕ → Bool) (a n : ℕ)
    → ((c : ℕ) → a ≤ c → test c ≡ true → f c ≡ g c)
    → sum_by f (kept test a n) ≡ sum_by g (kept test a n)
sum_same f g test a zero h = refl
sum_same f g test a (suc n) h =
    kept_same f g (test a) a (kept test (a + 1) n) (h a (omega arith))
    (sum_same f g test (a + 1) n (λ c p q. h c (omega arith) q))

kept_once : (f g : ℕ → ℕ) (b : Bool) (a : ℕ) (xs : List ℕ) → b ≡ true
    → sum_by f xs ≡ sum_by g xs
    → sum_by f (cond b (a ∷ xs) xs) + g a ≡ sum_by g (cond b (a ∷ xs) xs) + f a
kept_once f g b a xs h e = grind (arith, sum_by-cons f a xs, sum_by-cons g a xs)

kept_beside : (f g : ℕ → ℕ) (b : Bool) (a x y : ℕ) (xs : List ℕ) → f a ≡ g a
    → sum_by f xs + x ≡ sum_by g xs + y
    → sum_by f (cond b (a ∷ xs) xs) + x ≡ sum_by g (cond b (a ∷ xs) xs) + y
kept_beside f g b a x y xs h e =
    grind (arith, sum_by-cons f a xs, sum_by-cons g a xs)

-- where two numbers differ at one place alone, so do the sums
sum_once : (f g : ℕ → ℕ) (test : ℕ → Bool) (a n k : ℕ) → a ≤ k → k < a + n → test k ≡ true
    → ((c : ℕ) → (c ≡ k → ⊥) → f c ≡ g c)
    → sum_by f (kept test a n) + g k ≡ sum_by g (kept test a n) + f k
sum_once f g test a zero k p q e h = absurd (omega arith)
sum_once f g test a (suc n) k p q e h = elim (cases_eq a k) [
  | inl s ↦ rw (← s) (kept_once f g (test a) a (kept test (a + 1) n) (ap test s ∙ e)
      (sum_same f g test (a + 1) n (λ c i l. h c (λ r. absurd (omega (arith, s, r))))))
  | inr s ↦ kept_beside f g (test a) a (g k) (f k) (kept test (a + 1) n) (h a s)
      (sum_once f g test (a + 1) n k (omega (arith, s)) (omega arith) e h)
]

-- The sum of no starts
sum_none : (test : ℕ → Bool) (a n : ℕ) → sum_by (λ c. 0) (kept test a n) ≡ 0
sum_none test a n = omega (arith, sum_most (λ c. 0) 0 test a n (λ c. omega arith))

-- Starts below a domain ----------------------------------------------------------------------

abbrev is_below : BoardValue → ℕ → ℕ → ℕ → Bool
is_below b level place c = place_above b.levels level c == place

pub starts_none : (b : BoardValue) (n : Node) → starts_below b (λ c. 0) n ≡ 0
unfolding starts_below
starts_none b n = sum_none (is_below b n.level n.place) 0 (cores b)

pub starts_grow : (b : BoardValue) (f g : ℕ → ℕ) → ((c : ℕ) → f c ≤ g c) → (n : Node)
    → starts_below b f n ≤ starts_below b g n
unfolding starts_below
starts_grow b f g h n = sum_le f g (is_below b n.level n.place) 0 (cores b) h

pub starts_few : (b : BoardValue) (starts : ℕ → ℕ) (most : ℕ) → ((c : ℕ) → starts c ≤ most)
    → (n : Node) → starts_below b starts n ≤ cores b * most
unfolding starts_below
starts_few b starts most h n = sum_most starts most (is_below b n.level n.place) 0 (cores b) h

one_here : (starts : ℕ → ℕ) (c : ℕ) → one_more starts c c ≡ starts c + 1
one_here starts c = grind (arith, nat_tests)

one_there : (starts : ℕ → ℕ) (c k : ℕ) → (k ≡ c → ⊥) → one_more starts c k ≡ starts k
one_there starts c k e = grind (arith, nat_tests)

on_or_off : (s t g : ℕ) (x : Bool) → (x ≡ true → s ≡ t + g) → (x ≡ false → s ≡ t)
    → s ≡ t + cond x g 0
on_or_off s t g x here apart = grind arith

pub starts_more : (b : BoardValue) (starts : ℕ → ℕ) (c level place : ℕ) → c < cores b
    → level ≤ height b
    → starts_below b (one_more starts c) (record { level = level; place = place })
    ≡ starts_below b starts (record { level = level; place = place })
    + cond (is_on_path b c level place) 1 0
unfolding starts_below up
starts_more b starts c level place inside low =
    let test : ℕ → Bool = is_below b level place in
    let f : ℕ → ℕ = one_more starts c in
    on_or_off (sum_by f (kept test 0 (cores b))) (sum_by starts (kept test 0 (cores b))) 1
    (is_on_path b c level place)
    (λ e. omega (
      arith,
      sum_once f starts test 0 (cores b) c (omega arith) (omega arith)
          (eq-eqb _ _ (path_place b c level place e))
          (one_there starts c),
      one_here starts c,
    ))
    (λ e. sum_same f starts test 0 (cores b) (λ k h t. one_there starts c k
    (λ s. off_path b c level place e low
    (ap (place_above b.levels level) (sym s) ∙ eqb-true _ _ t))))

-- the cores below a core are itself
only_own : (starts : ℕ → ℕ) (a n c : ℕ) → a ≤ c → c < a + n
    → sum_by starts (kept (λ k. k == c) a n) ≡ starts c
only_own starts a n c low high =
    let none : ℕ → ℕ = λ k. 0 in
    let one : ℕ → ℕ = λ k. cond (k == c) (starts c) 0 in
    let here : one c ≡ starts c = rw (eq-eqb c c refl) refl in
    let same : sum_by starts (kept (λ k. k == c) a n) ≡ sum_by one (kept (λ k. k == c) a n) =
    sum_same starts one (λ k. k == c) a n
    (λ k h t. ap starts (eqb-true k c t) ∙ sym (ap (λ x. cond x (starts c) 0) t)) in
    omega (
      arith,
      same,
      here,
      sum_none (λ k. k == c) a n,
      sum_once one none (λ k. k == c) a n c low high (eq-eqb c c refl)
          (λ k e. rw (ne_eqb k c e) refl),
    )

pub starts_own : (b : BoardValue) (starts : ℕ → ℕ) (c : ℕ) → c < cores b
    → starts_below b starts (record { level = 0; place = c }) ≡ starts c
unfolding starts_below
starts_own b starts c inside = only_own starts 0 (cores b) c (omega arith) (omega arith)

-- Laws ----------------------------------------------------------------------------------------

pub sum_laws : (b : BoardValue) → SumLaws b
sum_laws b = record {
  none = starts_none b;
  own = starts_own b;
  more = starts_more b;
  grows = starts_grow b;
  few = starts_few b;
}

-- A part that was live and is no more is never live again -----------------------------------------

-- a life that was, and is no more
abbrev IsOver : Option ℕ → ℕ → Type 0
IsOver None was = Unit {0}
IsOver (Some l) was = was < l

over_stays : (f : Effect) (o : Option ℕ) (was : ℕ) → IsOver o was → IsOver (life_by f o) was
over_stays f o was h = grind arith

over_later : (b : BoardValue) (es h : List CtlExchange) (was : ℕ) → IsOver (life b h) was
    → IsOver (life b (es ++ h)) was
over_later b [] h was over = over
over_later b (e ∷ es) h was over =
    over_stays (effect_in b e) (life b (es ++ h)) was (over_later b es h was over)

over_not : (o : Option ℕ) (was : ℕ) → IsOver o was → o ≡ Some was → ⊥
over_not o was h e = grind arith

-- in a life starts only grow
record IsLater (now then_ : ℕ → ℕ) : Type 0 where
  grown : (k : ℕ) → then_ k ≤ now k

-- either the life is over, or it goes on and no core has fewer starts
abbrev Later : BoardValue → List CtlExchange → List CtlExchange → ℕ → Type 0
Later b now before was =
    IsOver (life b now) was ⊎ ((life b now ≡ Some was) × IsLater (starts b now) (starts b before))

one_later : (b : BoardValue) (f : Effect) (o : Option ℕ) (s t : ℕ → ℕ) (was : ℕ) → o ≡ Some was
    → IsLater s t
    → IsOver (life_by f o) was
    ⊎ ((life_by f o ≡ Some was) × IsLater (λ k. starts_by k f (s k)) t)
one_later b f o s t was e later = grind (arith, later.grown)

later : (b : BoardValue) (es h : List CtlExchange) (was : ℕ) → life b h ≡ Some was
    → Later b (es ++ h) h was
later b [] h was e = inr (e, record { grown = λ k. omega arith })
later b (x ∷ es) h was e = elim (later b es h was e) [
  | inl over ↦ inl (over_stays (effect_in b x) (life b (es ++ h)) was over)
  | inr same ↦ one_later b (effect_in b x) (life b (es ++ h)) (starts b (es ++ h)) (starts b h) was
      same.0 same.1
]

-- a generation that is past stays so
later_sum : (b : BoardValue) (now before : List CtlExchange) (n : Node)
    → IsLater (starts b now) (starts b before)
    → starts_below b (starts b before) n ≤ starts_below b (starts b now) n
later_sum b now before n is = starts_grow b (starts b before) (starts b now) is.grown n

pub never_again : (b : BoardValue) (later_still since before : List CtlExchange) (was : ℕ)
    (n : Node)
    (g : ℕ) → IsLive b before was n g → (IsLive b (since ++ before) was n g → ⊥)
    → IsLive b (later_still ++ (since ++ before)) was n g → ⊥
never_again b later_still since before was n g first gone again =
    elim (later b since before was first.life) [
      | inl over ↦ over_not (life b (later_still ++ (since ++ before))) was
          (over_later b later_still (since ++ before) was over) again.life
      | inr same ↦ elim (later b later_still (since ++ before) was same.0) [
        | inl over ↦ over_not (life b (later_still ++ (since ++ before))) was over again.life
        | inr still ↦ gone (record {
          life = same.0;
          generation = omega (
            arith,
            first.generation,
            again.generation,
            later_sum b (since ++ before) before n same.1,
            later_sum b (later_still ++ (since ++ before)) (since ++ before) n still.1,
          );
        })
      ]
    ]
