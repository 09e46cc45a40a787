-- A fold over numbers does not depend on the order of two of them, if its steps commute; and what
-- is counted over numbers is such a fold.
use Rattle.std.proofs.Common.{min, nat_le}
use Rattle.psci_fw_spec.specs.declared.outcome.Act.TheVariants as acts
use Rattle.psci_fw_spec.specs.psci_abi.Calls.{success}
use Rattle.psci_fw_spec.specs.psci_abi.declared.request.Request.TheVariants as requests
use Rattle.psci_fw_laws.proofs.Words.{◌&&◌, ◌+◌, ◌<◌, ◌==◌, ◌||◌, ◌∙◌, ◌∷◌, ◌≡◌, ◌≤◌, ◌⊎◌, []}
use Rattle.psci_fw_laws.proofs.Words.{ap, AreValues, arith, BoardValue, Bool}
use Rattle.psci_fw_laws.proofs.Words.{cases_Bool, cases_eq, cases_lt, change, Code}
use Rattle.psci_fw_laws.proofs.Words.{cond, Effect, false, filter, function_effect}
use Rattle.psci_fw_laws.proofs.Words.{GoesOn, if◌then◌else◌, inl, inr, int_eq}
use Rattle.psci_fw_laws.proofs.Words.{IsAllowed, IsCalling, least, List, list_all}
use Rattle.psci_fw_laws.proofs.Words.{list_any, map, mode_effect, mode_of, nat_lt, nat_tests}
use Rattle.psci_fw_laws.proofs.Words.{None, Outcome}
use Rattle.psci_fw_laws.proofs.Words.{range_with_len, refl, Request, Running}
use Rattle.psci_fw_laws.proofs.Words.{Some, suc, sum_by}
use Rattle.psci_fw_laws.proofs.Words.{sum_by-cons, swap, sym, true, Values}
use Rattle.psci_fw_laws.proofs.Words.{zero, ℕ}

-- a right fold
abbrev pub fold : {R : Type 0} → (ℕ → R → R) → R → List ℕ → R
fold g z [] = z
fold g z (k ∷ ks) = g k (fold g z ks)

-- the same steps without one number
abbrev pub without : {R : Type 0} → ℕ → (ℕ → R → R) → ℕ → R → R
without x g k r = if k == x then r else g k r

-- the order of two steps does not matter
abbrev pub Commutes : {R : Type 0} → (ℕ → R → R) → Type 0
Commutes {R} g = (i j : ℕ) (r : R) → g i (g j r) ≡ g j (g i r)

-- steps that agree on the numbers gone over
pub alike : {R : Type 0} (g h : ℕ → R → R) (z : R) (a n : ℕ)
    → ((k : ℕ) (r : R) → a ≤ k → k < a + n → g k r ≡ h k r)
    → fold g z (range_with_len a n) ≡ fold h z (range_with_len a n)
alike g h z a zero e = refl
alike g h z a (suc n) e =
    ap (g a) (alike g h z (a + 1) n (λ k r i j. e k r (omega arith) (omega arith)))
    ∙ e a _ (omega arith) (omega arith)

without-other : {R : Type 0} (g : ℕ → R → R) (x k : ℕ) (r : R) → (k ≡ x → ⊥)
    → without x g k r ≡ g k r
without-other g x k r d = grind arith

-- a number that is gone over may come first
pull : {R : Type 0} (g : ℕ → R → R) (z : R) (a n x : ℕ) → Commutes g → a ≤ x → x < a + n
    → fold g z (range_with_len a n) ≡ g x (fold (without x g) z (range_with_len a n))
pull g z a zero x c h i = absurd (omega arith)
pull g z a (suc n) x c h i =
    grind (arith, nat_tests, cases_eq, fold, without, without-other, pull g z (a + 1) n x c, alike)

-- Swapping --------------------------------------------------------------------------------------

pub swap-first : (x y : ℕ) → swap x y x ≡ y
swap-first x y = grind arith

pub swap-second : (x y : ℕ) → swap x y y ≡ x
swap-second x y = grind arith

pub swap-other : (x y k : ℕ) → (k ≡ x → ⊥) → (k ≡ y → ⊥) → swap x y k ≡ k
swap-other x y k d e = grind arith

-- swapping twice
pub swap-back : (x y k : ℕ) → swap x y (swap x y k) ≡ k
swap-back x y k = grind arith

-- a number swapped with itself
swap-same : (x y k : ℕ) → x ≡ y → swap x y k ≡ k
swap-same x y k e = grind arith

-- steps of the other number
abbrev pub swapped : {R : Type 0} → ℕ → ℕ → (ℕ → R → R) → ℕ → R → R
swapped x y g k r = g (swap x y k) r

-- both numbers may come first
pull-two : {R : Type 0} (g : ℕ → R → R) (z : R) (a n x y : ℕ) → Commutes g → (y ≡ x → ⊥)
    → a ≤ x → x < a + n → a ≤ y → y < a + n
    → fold g z (range_with_len a n)
    ≡ g x (g y (fold (without y (without x g)) z (range_with_len a n)))
pull-two g z a n x y c d h i j k = grind (arith, pull, without-other)

without-both : {R : Type 0} (g : ℕ → R → R) (x y k : ℕ) (r : R) (p q : Bool) → (k == x) ≡ p
    → (k == y) ≡ q → without y (without x (swapped x y g)) k r ≡ without y (without x g) k r
without-both g x y k r p q e f = grind arith

swapped-commutes : {R : Type 0} (g : ℕ → R → R) (x y : ℕ) → Commutes g → Commutes (swapped x y g)
swapped-commutes g x y c = λ i j r. c (swap x y i) (swap x y j) r

-- a fold over numbers with both of two, each as the other one
swapped-inside : {R : Type 0} (g : ℕ → R → R) (z : R) (a n x y : ℕ) → Commutes g
    → a ≤ x → x < a + n → a ≤ y → y < a + n
    → fold (swapped x y g) z (range_with_len a n) ≡ fold g z (range_with_len a n)
swapped-inside g z a n x y c h i j k = elim (cases_eq y x) [
  | inl same ↦ alike (swapped x y g) g z a n (λ m r u w.
      ap (λ (l : ℕ). g l r) (swap-same x y m (sym same)))
  | inr d ↦
      let rest = alike (without y (without x (swapped x y g))) (without y (without x g)) z a n
      (λ m r u w. without-both g x y m r (m == x) (m == y) refl refl) in
      let tail = fold (without y (without x g)) z (range_with_len a n) in
      pull-two (swapped x y g) z a n x y (swapped-commutes g x y c) d h i j k
      ∙ (ap (λ (t : _). swapped x y g x (swapped x y g y t)) rest
      ∙ (ap (λ (l : ℕ). g l (swapped x y g y tail)) (swap-first x y)
      ∙ (ap (λ (l : ℕ). g y (g l tail)) (swap-second x y)
      ∙ (c y x tail
      ∙ sym (pull-two g z a n x y c d h i j k)))))
]

pub cases_within : (a n x : ℕ) → ((a ≤ x) × (x < a + n)) ⊎ (a ≤ x → x < a + n → ⊥)
cases_within a n x = grind arith

-- a fold over numbers with both of two or with neither
pub swapped-fold : {R : Type 0} (g : ℕ → R → R) (z : R) (a n x y : ℕ) → Commutes g
    → (a ≤ x → x < a + n → (a ≤ y) × (y < a + n)) → (a ≤ y → y < a + n → (a ≤ x) × (x < a + n))
    → fold (swapped x y g) z (range_with_len a n) ≡ fold g z (range_with_len a n)
swapped-fold g z a n x y c f s = grind (arith, cases_within, swapped-inside, alike, swap-other)

-- Steps -----------------------------------------------------------------------------------------

-- a step at the numbers that pass a test
abbrev pub passing : {R : Type 0} → (ℕ → Bool) → (ℕ → R → R) → ℕ → R → R
passing p g k r = if p k then g k r else r

passing-two : {R : Type 0} (g : ℕ → R → R) (i j : ℕ) (r : R) (p q : Bool) → Commutes g
    → (if p then g i (if q then g j r else r) else (if q then g j r else r))
    ≡ (if q then g j (if p then g i r else r) else (if p then g i r else r))
passing-two g i j r p q c = grind (arith, c i j r)

pub passing-commutes : {R : Type 0} (p : ℕ → Bool) (g : ℕ → R → R) → Commutes g
    → Commutes (passing p g)
passing-commutes p g c = λ i j r. passing-two g i j r (p i) (p j) c

-- a fold over the numbers that pass
pub fold-filter : {R : Type 0} (p : ℕ → Bool) (g : ℕ → R → R) (z : R) (ks : List ℕ)
    → fold g z (filter p ks) ≡ fold (passing p g) z ks
fold-filter p g z [] = refl
fold-filter p g z (k ∷ ks) = grind (arith, nat_tests, cases_Bool, fold-filter p g z ks)

-- Counts ----------------------------------------------------------------------------------------

abbrev pub adds : (ℕ → ℕ) → ℕ → ℕ → ℕ
adds f k r = f k + r

abbrev pub lessens : (ℕ → ℕ) → ℕ → ℕ → ℕ
lessens f k r = min (f k) r

abbrev pub ands : (ℕ → Bool) → ℕ → Bool → Bool
ands f k r = f k && r

abbrev pub ors : (ℕ → Bool) → ℕ → Bool → Bool
ors f k r = f k || r

pub adds-commutes : (f : ℕ → ℕ) → Commutes (adds f)
adds-commutes f = λ i j r. omega arith

pub lessens-commutes : (f : ℕ → ℕ) → Commutes (lessens f)
lessens-commutes f = λ i j r. omega arith

and-swap : (x y r : Bool) → (x && (y && r)) ≡ (y && (x && r))
and-swap x y r = grind arith

or-swap : (x y r : Bool) → (x || (y || r)) ≡ (y || (x || r))
or-swap x y r = grind arith

pub ands-commutes : (f : ℕ → Bool) → Commutes (ands f)
ands-commutes f = λ i j r. and-swap (f i) (f j) r

pub ors-commutes : (f : ℕ → Bool) → Commutes (ors f)
ors-commutes f = λ i j r. or-swap (f i) (f j) r

pub sum_by-fold : (f : ℕ → ℕ) (ks : List ℕ) → sum_by f ks ≡ fold (adds f) 0 ks
sum_by-fold f [] = refl
sum_by-fold f (k ∷ ks) = sum_by-cons f k ks ∙ ap (λ (r : ℕ). f k + r) (sum_by-fold f ks)

pub least-fold : (f : ℕ → ℕ) (ks : List ℕ) → least (map f ks) ≡ fold (lessens f) 3 ks
least-fold f [] = refl
least-fold f (k ∷ ks) = ap (min (f k)) (least-fold f ks)

pub list_all-fold : (f : ℕ → Bool) (ks : List ℕ) → list_all f ks ≡ fold (ands f) true ks
list_all-fold f [] = refl
list_all-fold f (k ∷ ks) = ap (λ (r : Bool). f k && r) (list_all-fold f ks)

pub list_any-fold : (f : ℕ → Bool) (ks : List ℕ) → list_any f ks ≡ fold (ors f) false ks
list_any-fold f [] = refl
list_any-fold f (k ∷ ks) = ap (λ (r : Bool). f k || r) (list_any-fold f ks)

-- A fold over numbers whose steps commute is the same over their other numbers --------------------

-- the first n numbers renumbered among themselves: those whose other number is one of them
abbrev so_far : (ℕ → ℕ) → ℕ → ℕ → ℕ
so_far s n k = if nat_lt k n && nat_lt (s k) n then s k else k

among : (s : ℕ → ℕ) (n k : ℕ) → k < n → s k < n → so_far s n k ≡ s k
among s n k h i = grind arith

beyond : (s : ℕ → ℕ) (n k : ℕ) → n ≤ k → so_far s n k ≡ k
beyond s n k h = grind arith

-- one number more, whose other number is larger: nothing changes yet
later : (s : ℕ → ℕ) (n k : ℕ) → ((j : ℕ) → s (s j) ≡ j) → n < s n
    → so_far s (suc n) k ≡ so_far s n k
later s n k back over = grind (arith, back k, back n)

-- a number whose other number came before stays, until then
own : (s : ℕ → ℕ) (n : ℕ) → ((j : ℕ) → s (s j) ≡ j) → s n ≤ n → so_far s n (s n) ≡ s n
own s n back under = grind (arith, back n)

-- all other numbers are where they were
unmoved : (s : ℕ → ℕ) (n k : ℕ) → (k ≡ n → ⊥) → (s k ≡ n → ⊥)
    → so_far s (suc n) k ≡ so_far s n k
unmoved s n k d other = grind arith

-- one number more, whose other number came before: the two are swapped first
sooner : (s : ℕ → ℕ) (n k : ℕ) → ((j : ℕ) → s (s j) ≡ j) → s n ≤ n
    → so_far s (suc n) k ≡ so_far s n (swap n (s n) k)
sooner s n k back under = grind (arith, nat_tests, cases_eq, own, unmoved)

-- a fold over the other numbers, so far
fold-so_far : {R : Type 0} (s : ℕ → ℕ) (g : ℕ → R → R) (z : R) (m n : ℕ) → Commutes g
    → ((j : ℕ) → s (s j) ≡ j) → n ≤ m
    → fold (λ k r. g (so_far s n k) r) z (range_with_len 0 m) ≡ fold g z (range_with_len 0 m)
fold-so_far s g z m zero c back h = grind (arith, alike, beyond)
fold-so_far s g z m (suc n) c back h = elim (cases_lt n (s n)) [
  | inl over ↦
      alike (λ k r. g (so_far s (suc n) k) r) (λ k r. g (so_far s n k) r) z 0 m (λ k r i j.
      ap (λ (x : ℕ). g x r) (later s n k back over))
      ∙ fold-so_far s g z m n c back (omega arith)
  | inr under ↦
      alike (λ k r. g (so_far s (suc n) k) r) (λ k r. g (so_far s n (swap n (s n) k)) r) z 0 m
      (λ k r i j. ap (λ (x : ℕ). g x r) (sooner s n k back under))
      ∙ (swapped-fold (λ k r. g (so_far s n k) r) z 0 m n (s n)
      (λ i j r. c (so_far s n i) (so_far s n j) r)
      (λ i j. (omega arith, omega arith)) (λ i j. (omega arith, omega arith))
      ∙ fold-so_far s g z m n c back (omega arith))
]

-- a fold over the other numbers of all numbers below m
pub fold-other : {R : Type 0} (s : ℕ → ℕ) (g : ℕ → R → R) (z : R) (m : ℕ) → Commutes g
    → ((j : ℕ) → s (s j) ≡ j) → ((j : ℕ) → j < m → s j < m)
    → fold (λ k r. g (s k) r) z (range_with_len 0 m) ≡ fold g z (range_with_len 0 m)
fold-other s g z m c back inside =
    alike (λ k r. g (s k) r) (λ k r. g (so_far s m k) r) z 0 m (λ k r i j.
    let below : k < m = omega arith in
    ap (λ (x : ℕ). g x r) (sym (among s m k below (inside k below))))
    ∙ fold-so_far s g z m m c back (omega arith)

-- Windows ---------------------------------------------------------------------------------------

-- a number is one of so many from a on
abbrev pub is_within : ℕ → ℕ → ℕ → Bool
is_within a n k = nat_le a k && nat_lt k (a + n)

-- a step at those numbers
abbrev pub within : {R : Type 0} → ℕ → ℕ → (ℕ → R → R) → ℕ → R → R
within a n g k r = if is_within a n k then g k r else r

pub is_within-true : (a n k : ℕ) → a ≤ k → k < a + n → is_within a n k ≡ true
is_within-true a n k h i = grind arith

is_within-under : (a n k : ℕ) → k < a → is_within a n k ≡ false
is_within-under a n k h = grind arith

pub is_within-false : (a n k : ℕ) → (a ≤ k → k < a + n → ⊥) → is_within a n k ≡ false
is_within-false a n k out = grind arith

-- the numbers of a window after its first one
is_within-next : (a n k : ℕ) → a < k → is_within a (suc n) k ≡ is_within (a + 1) n k
is_within-next a n k h = grind arith

is_within-none : (a k : ℕ) → is_within a 0 k ≡ false
is_within-none a k = grind arith

-- a fold over a window is one over all numbers with steps at the window alone
pub fold-window : {R : Type 0} (g : ℕ → R → R) (z : R) (i m a n : ℕ)
    → ((k : ℕ) → a ≤ k → k < a + n → (i ≤ k) × (k < i + m))
    → fold (within a n g) z (range_with_len i m) ≡ fold g z (range_with_len a n)
fold-window g z i zero a zero inside = refl
fold-window g z i zero a (suc n) inside =
    let at = inside a (omega arith) (omega arith) in absurd (omega (arith, at.0, at.1))
fold-window g z i (suc m) a zero inside =
    rw (is_within-none a i) (fold-window g z (i + 1) m a 0 (λ k h j. absurd (omega arith)))
fold-window g z i (suc m) a (suc n) inside =
    let first = inside a (omega arith) (omega arith) in
    elim (cases_eq i a) [
      | inl same ↦
          rw (is_within-true a (suc n) i (omega arith) (omega arith))
          (ap (g i) (alike (within a (suc n) g) (within (a + 1) n g) z (i + 1) m (λ k r h j.
          ap (λ (t : Bool). if t then g k r else r) (is_within-next a n k (omega arith)))
          ∙ fold-window g z (i + 1) m (a + 1) n (λ k h j.
          let at = inside k (omega arith) (omega arith) in
          (omega (arith, same, h), omega (arith, at.1))))
          ∙ ap (λ (x : ℕ). g x (fold g z (range_with_len (a + 1) n))) same)
      | inr other ↦
          rw (is_within-under a (suc n) i (omega (arith, other, first.0)))
          (fold-window g z (i + 1) m a (suc n) (λ k h j.
          let at = inside k h j in (omega (arith, other, first.0, h), omega (arith, at.1))))
    ]

-- Lower -------------------------------------------------------------------------------------------
-- What is known before an answer, and what is to be shown of its effect.

-- What is known of the values before an answer.
pub record IsReady (b : BoardValue) (v : Values) : Type 0 where
  pub values : AreValues b v
  pub entered : (c : ℕ) → v.phase c ≡ Running → 0 < v.known c

-- an effect is allowed that leaves values such as the firmware keeps
abbrev pub Allows : BoardValue → Values → Effect → Type 0
Allows b v e = AreValues b (change b e v) → IsAllowed b v e

-- what a function comes down to that ended so
abbrev pub outcome_effect : BoardValue → ℕ → Request → Outcome → Effect
outcome_effect b c r o = function_effect b c r o.act o.message

-- Functions that return ------------------------------------------------------------------------

module _ {b : BoardValue} {v : Values} {c : ℕ} (calls : IsCalling b v c) where
  mode_allowed : (number : ℕ) (t : Bool)
      → Allows b v (cond t (mode_effect c (mode_of number)) (GoesOn c))
  mode_allowed number true are = by_mode (mode_of number)
    where
      by_mode : (o : _) → IsAllowed b v (mode_effect c o)
      by_mode None = calls
      by_mode (Some mode) = calls
  mode_allowed number false are = calls

  pub returned : (r : Request) (code : Code)
      → Allows b v (function_effect b c r (acts.Return code) None)
  returned (requests.SetSuspendMode number) code are =
      mode_allowed number (int_eq code.0 success.0) are
  returned r code are = calls
