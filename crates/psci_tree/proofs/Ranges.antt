-- Sums over lists of numbers, over ranges, and over what a filter keeps of a range. A count is a
-- sum of ones.
use Rattle.std.specs.List.{list_all}
use Rattle.std.proofs.lemmas.Bool.{cases_lt}
use Rattle.psci_tree.proofs.Words.{◌&&◌, ◌++◌, ◌+◌, ◌<◌, ◌==◌, ◌∙◌, ◌∷◌, ◌≡◌, ◌≤◌, []}
use Rattle.psci_tree.proofs.Words.{ap, arith, asking_in, asks, Bool, cases_eq}
use Rattle.psci_tree.proofs.Words.{cond, CoreState, count_by, eq-eqb, false, filter}
use Rattle.psci_tree.proofs.Words.{inl, inr}
use Rattle.psci_tree.proofs.Words.{least, length, List, low_in}
use Rattle.psci_tree.proofs.Words.{map, min, nat_tests, ne_eqb, not}
use Rattle.psci_tree.proofs.Words.{range_with_len, refl, set, suc, sum_by}
use Rattle.psci_tree.proofs.Words.{sum_by-cons, true, zero, ℕ}

-- where it is so of each number, it is so of the sums
pub sums : (f g h : ℕ → ℕ) (xs : List ℕ) → ((k : ℕ) → f k + g k ≡ h k)
    → sum_by f xs + sum_by g xs ≡ sum_by h xs
sums f g h [] e = refl
sums f g h (x ∷ xs) e = omega (
  arith,
  sum_by-cons f x xs,
  sum_by-cons g x xs,
  sum_by-cons h x xs,
  e x,
  sums f g h xs e,
)

pub ones : (xs : List ℕ) → sum_by (λ k. 1) xs ≡ length xs
ones [] = refl
ones (x ∷ xs) = omega (arith, sum_by-cons (λ k. 1) x xs, ones xs)

pub zeros : (xs : List ℕ) → sum_by (λ k. 0) xs ≡ 0
zeros [] = refl
zeros (x ∷ xs) = omega (arith, sum_by-cons (λ k. 0) x xs, zeros xs)

either : (b : Bool) → cond b 1 0 + cond (not b) 1 0 ≡ 1
either b = grind arith

-- each passes a test, or does not
pub counted_both : (test : ℕ → Bool) (xs : List ℕ)
    → count_by test xs + count_by (λ k. not (test k)) xs ≡ length xs
counted_both test xs =
    sums (λ k. cond (test k) 1 0) (λ k. cond (not (test k)) 1 0) (λ k. 1) xs
    (λ k. either (test k))
    ∙ ones xs

all_step : (t : Bool) (n : ℕ) → (t && (n == 0)) ≡ ((cond (not t) 1 0 + n) == 0)
all_step t n = grind (arith, nat_tests)

-- all pass where none are counted that do not
pub all_counted : (p : ℕ → Bool) (xs : List ℕ)
    → list_all p xs ≡ (count_by (λ k. not (p k)) xs == 0)
all_counted p [] = refl
all_counted p (x ∷ xs) = simp (all_counted p xs, sum_by-cons, all_step)

-- Ranges -------------------------------------------------------------------------------------

pub range_same : (f g : ℕ → ℕ) (a n : ℕ) → ((c : ℕ) → a ≤ c → c < a + n → f c ≡ g c)
    → sum_by f (range_with_len a n) ≡ sum_by g (range_with_len a n)
range_same f g a zero h = refl
range_same f g a (suc n) h = omega (
  arith,
  sum_by-cons f a (range_with_len (a + 1) n),
  sum_by-cons g a (range_with_len (a + 1) n),
  h a (omega arith) (omega arith),
  range_same f g (a + 1) n (λ c p q. h c (omega arith) (omega arith)),
)

-- where two numbers differ at one place alone, so do the sums
pub range_once : (f g : ℕ → ℕ) (a n k : ℕ) → a ≤ k → k < a + n
    → ((c : ℕ) → (c ≡ k → ⊥) → f c ≡ g c)
    → sum_by f (range_with_len a n) + g k ≡ sum_by g (range_with_len a n) + f k
range_once f g a zero k p q h = absurd (omega arith)
range_once f g a (suc n) k p q h =
    let first = sum_by-cons f a (range_with_len (a + 1) n) in
    let second = sum_by-cons g a (range_with_len (a + 1) n) in
    elim (cases_eq a k) [
      | inl e ↦
          let rest = range_same f g (a + 1) n (λ c i j. h c (λ r. absurd (omega (arith, e, r)))) in
          omega (arith, first, second, ap f e, ap g e, rest)
      | inr e ↦
          let rest = range_once f g (a + 1) n k (omega (arith, e)) (omega arith) h in
          omega (arith, first, second, h a e, rest)
    ]

-- What a filter keeps ------------------------------------------------------------------------

kept : (b : Bool) (f : ℕ → ℕ) (x : ℕ) (xs : List ℕ)
    → sum_by f (cond b (x ∷ xs) xs) ≡ cond b (f x) 0 + sum_by f xs
kept true f x xs = sum_by-cons f x xs
kept false f x xs = omega arith

pub filtered : (f : ℕ → ℕ) (test : ℕ → Bool) (xs : List ℕ)
    → sum_by f (filter test xs) ≡ sum_by (λ c. cond (test c) (f c) 0) xs
filtered f test [] = refl
filtered f test (x ∷ xs) = omega (
  arith,
  kept (test x) f x (filter test xs),
  sum_by-cons (λ c. cond (test c) (f c) 0) x xs,
  filtered f test xs,
)

sum_once : (f g : ℕ → ℕ) (test : ℕ → Bool) (n k : ℕ) → k < n
    → ((c : ℕ) → (c ≡ k → ⊥) → f c ≡ g c)
    → sum_by f (filter test (range_with_len 0 n)) + cond (test k) (g k) 0
    ≡ sum_by g (filter test (range_with_len 0 n)) + cond (test k) (f k) 0
sum_once f g test n k p h = omega (
  arith,
  filtered f test (range_with_len 0 n),
  filtered g test (range_with_len 0 n),
  range_once (λ c. cond (test c) (f c) 0) (λ c. cond (test c) (g c) 0) 0 n k (omega arith)
      (omega arith) (λ c q. ap (λ x. cond (test c) x 0) (h c q)),
)

-- the filter keeps the one place, or it does not
pub sum_on : (f g : ℕ → ℕ) (test : ℕ → Bool) (n k : ℕ) → k < n
    → ((c : ℕ) → (c ≡ k → ⊥) → f c ≡ g c) → test k ≡ true
    → sum_by f (filter test (range_with_len 0 n)) + g k
    ≡ sum_by g (filter test (range_with_len 0 n)) + f k
sum_on f g test n k p h e = rw e at (sum_once f g test n k p h)

pub sum_off : (f g : ℕ → ℕ) (test : ℕ → Bool) (n k : ℕ) → k < n
    → ((c : ℕ) → (c ≡ k → ⊥) → f c ≡ g c) → test k ≡ false
    → sum_by f (filter test (range_with_len 0 n)) ≡ sum_by g (filter test (range_with_len 0 n))
sum_off f g test n k p h e =
    let same = rw e at (sum_once f g test n k p h) in omega arith

-- What some cores ask at least, by how many ask each depth ----------------------------------------

pub least_le : (ds : List ℕ) → least ds ≤ 3
least_le [] = omega arith
least_le (d ∷ ds) = omega (arith, least_le ds)

low-append : (level : ℕ) (xs ys : List CoreState)
    → low_in level (xs ++ ys) ≡ min (low_in level xs) (low_in level ys)
low-append level [] ys = omega (arith, least_le (map (λ c. asks c.activity level) ys))
low-append level (x ∷ xs) ys = omega (arith, low-append level xs ys)

-- one core more
pub low-push : (level : ℕ) (cs : List CoreState) (c : CoreState)
    → low_in level (cs ++ c ∷ []) ≡ min (low_in level cs) (asks c.activity level)
low-push level cs c =
    omega (arith, low-append level cs (c ∷ []), least_le (map (λ x. asks x.activity level) cs))

-- By how many ask each depth ----------------------------------------------------------------------

asking_cons : (level depth : ℕ) (c : CoreState) (cs : List CoreState)
    → asking_in level depth (c ∷ cs)
    ≡ cond (asks c.activity level == depth) 1 0 + asking_in level depth cs
asking_cons level depth c cs =
    sum_by-cons (λ (x : CoreState). cond (asks x.activity level == depth) 1 0) c cs

-- where one asks this depth, no more is asked
pub low_at_most : (level depth : ℕ) (cs : List CoreState) → 0 < asking_in level depth cs
    → low_in level cs ≤ depth
low_at_most level depth [] h = absurd (omega arith)
low_at_most level depth (c ∷ cs) h = elim (cases_eq (asks c.activity level) depth) [
  | inl e ↦ omega (arith, e)
  | inr n ↦
      let none : cond {A = ℕ} (asks c.activity level == depth) 1 0 ≡ 0 =
      rw (ne_eqb (asks c.activity level) depth n) refl in
      let rest : 0 < asking_in level depth cs =
      omega (arith, h, none, asking_cons level depth c cs) in
      omega (arith, low_at_most level depth cs rest)
]

-- where none asks a lesser depth, as much is asked
pub low_at_least : (level most : ℕ) (cs : List CoreState) → most ≤ 3
    → ((depth : ℕ) → depth < most → asking_in level depth cs ≡ 0) → most ≤ low_in level cs
low_at_least level most [] h none = h
low_at_least level most (c ∷ cs) h none =
    let rest = low_at_least level most cs h (λ depth less.
    omega (arith, none depth less, asking_cons level depth c cs)) in
    elim (cases_lt (asks c.activity level) most) [
      | inl less ↦
          let one : cond {A = ℕ} (asks c.activity level == asks c.activity level) 1 0 ≡ 1 =
          rw (eq-eqb (asks c.activity level) (asks c.activity level) refl) refl in
          absurd (omega (
            arith,
            none (asks c.activity level) less,
            one,
            asking_cons level (asks c.activity level) c cs,
          ))
      | inr more ↦ omega (arith, rest, more)
    ]

-- the counts below a depth, one by one
below_one : (f : ℕ → ℕ) → f 0 ≡ 0 → (depth : ℕ) → depth < 1 → f depth ≡ 0
below_one f a zero h = a
below_one f a (suc depth) h = absurd (omega arith)

below_two : (f : ℕ → ℕ) → f 0 ≡ 0 → f 1 ≡ 0 → (depth : ℕ) → depth < 2 → f depth ≡ 0
below_two f a b zero h = a
below_two f a b (suc depth) h = below_one (λ d. f (suc d)) b depth (omega arith)

below_three : (f : ℕ → ℕ) → f 0 ≡ 0 → f 1 ≡ 0 → f 2 ≡ 0 → (depth : ℕ) → depth < 3 → f depth ≡ 0
below_three f a b c zero h = a
below_three f a b c (suc depth) h = below_two (λ d. f (suc d)) b c depth (omega arith)

module _ (level : ℕ) (cs : List CoreState) where
  abbrev asking : ℕ → ℕ
  asking depth = asking_in level depth cs

  pub low_zero : 0 < asking 0 → 0 ≡ low_in level cs
  low_zero some = omega (arith, low_at_most level 0 cs some)

  pub low_one : asking 0 ≡ 0 → 0 < asking 1 → 1 ≡ low_in level cs
  low_one a some = omega (
    arith,
    low_at_most level 1 cs some,
    low_at_least level 1 cs (omega arith) (below_one asking a),
  )

  pub low_two : asking 0 ≡ 0 → asking 1 ≡ 0 → 0 < asking 2 → 2 ≡ low_in level cs
  low_two a b some = omega (
    arith,
    low_at_most level 2 cs some,
    low_at_least level 2 cs (omega arith) (below_two asking a b),
  )

  pub low_three : asking 0 ≡ 0 → asking 1 ≡ 0 → asking 2 ≡ 0 → 3 ≡ low_in level cs
  low_three a b c = omega (
    arith,
    least_le (map (λ x. asks x.activity level) cs),
    low_at_least level 3 cs (omega arith) (below_three asking a b c),
  )

-- a core alone asks one depth
pub one_asks : (depth : ℕ) → depth ≤ 3 → set (0 ∷ 0 ∷ 0 ∷ 0 ∷ []) depth 1
    ≡ map (λ d. 0 + cond (depth == d) 1 0) (0 ∷ 1 ∷ 2 ∷ 3 ∷ [])
one_asks zero h = refl
one_asks (suc zero) h = refl
one_asks (suc (suc zero)) h = refl
one_asks (suc (suc (suc zero))) h = refl
one_asks (suc (suc (suc (suc d)))) h = absurd (omega arith)
