-- Ranges of numbers: which part a test keeps, and a range within a range.
use Rattle.std.specs.List.{find}
use Rattle.std.proofs.Common.{◌&&◌, add-zero, leb}
use Rattle.std.proofs.lemmas.List.Elements.{filter-append}
use Rattle.std.proofs.lemmas.Option.{unwrap_or-slice_get}
use Rattle.psci_board.specs.Board.{level_at, node_of}
use Rattle.psci_board.proofs.Terms.{◌*◌, ◌++◌, ◌+◌, ◌-◌, ◌/◌, ◌<◌, ◌==◌, ◌^◌, ◌∙◌, ◌∷◌, ◌≡◌, ◌≤◌}
use Rattle.psci_board.proofs.Terms.{[], ap, append-nil, arith, BoardValue, Bool, child, child_in}
use Rattle.psci_board.proofs.Terms.{children, drop, false, filter, first_child, flat_map}
use Rattle.psci_board.proofs.Terms.{flat_map-append, get_or, get_or_from_slice_get, height}
use Rattle.psci_board.proofs.Terms.{index_named, List, ltb, nat_tests, Node, None, none-some}
use Rattle.psci_board.proofs.Terms.{Option, option_map, range_with_len, refl, same_Some}
use Rattle.psci_board.proofs.Terms.{slice_get, Some, suc, sum, sym, take, true, zero, zero-add}
use Rattle.psci_board.proofs.Terms.{ℕ}

range_split : (a m n : ℕ)
    → range_with_len a (m + n) ≡ range_with_len a m ++ range_with_len (a + m) n
range_split a zero n = rw (zero-add, add-zero) refl
range_split a (suc m) n =
    let e : suc m + n ≡ suc (m + n) = omega arith in
    let f : a + suc m ≡ a + 1 + m = omega arith in
    rw (e, f) (ap (λ xs. a ∷ xs) (range_split (a + 1) m n))

keep_all : (test : ℕ → Bool) (a n : ℕ) → ((c : ℕ) → a ≤ c → c < a + n → test c ≡ true)
    → filter test (range_with_len a n) ≡ range_with_len a n
keep_all test a zero h = refl
keep_all test a (suc n) h = grind (arith, nat_tests, keep_all test (a + 1) n)

keep_none : (test : ℕ → Bool) (a n : ℕ) → ((c : ℕ) → a ≤ c → c < a + n → test c ≡ false)
    → filter test (range_with_len a n) ≡ []
keep_none test a zero h = refl
keep_none test a (suc n) h = grind (arith, nat_tests, keep_none test (a + 1) n)

-- where a test holds from a on, for k numbers, and nowhere else
pub keep_middle : (test : ℕ → Bool) (a k n : ℕ) → a + k ≤ n → ((c : ℕ) → c < a → test c ≡ false)
    → ((c : ℕ) → a ≤ c → c < a + k → test c ≡ true)
    → ((c : ℕ) → a + k ≤ c → c < n → test c ≡ false)
    → filter test (range_with_len 0 n) ≡ range_with_len a k
keep_middle test a k n h before here after =
    let whole : n ≡ a + (k + (n - a - k)) = omega arith in
    let parts : range_with_len 0 n ≡ range_with_len 0 a
    ++ (range_with_len a k ++ range_with_len (a + k) (n - a - k)) =
    ap (range_with_len 0) whole ∙ range_split 0 a (k + (n - a - k))
    ∙ rw zero-add (ap (λ xs. range_with_len 0 a ++ xs) (range_split a k (n - a - k))) in
    ap (filter test) parts
    ∙ filter-append test (range_with_len 0 a) (range_with_len a k
    ++ range_with_len (a + k) (n - a - k))
    ∙ rw (
      keep_none test 0 a (λ c p q. before c (omega arith)),
      filter-append test (range_with_len a k) (range_with_len (a + k) (n - a - k)),
      keep_all test a k here,
      keep_none test (a + k) (n - a - k) (λ c p q. after c p (omega arith)),
    )
    (append-nil (range_with_len a k))

take_range : (k a n : ℕ) → k ≤ n → take k (range_with_len a n) ≡ range_with_len a k
take_range zero a n h = refl
take_range (suc k) a zero h = absurd (omega arith)
take_range (suc k) a (suc n) h = ap (λ xs. a ∷ xs) (take_range k (a + 1) n (omega arith))

drop_range : (k a n : ℕ) → drop k (range_with_len a (k + n)) ≡ range_with_len (a + k) n
drop_range zero a n = rw (zero-add, add-zero) refl
drop_range (suc k) a n =
    let e : suc k + n ≡ suc (k + n) = omega arith in
    let f : a + suc k ≡ a + 1 + k = omega arith in
    rw (e, f) (drop_range k (a + 1) n)

-- a range within a range
pub cut_range : (a k n : ℕ) → a + k ≤ n
    → range_with_len a k ≡ take k (drop a (range_with_len 0 n))
cut_range a k n h =
    let whole : n ≡ a + (n - a) = omega arith in
    let dropped : drop a (range_with_len 0 n) ≡ range_with_len a (n - a) =
    ap (λ m. drop a (range_with_len 0 m)) whole ∙ drop_range a 0 (n - a)
    ∙ ap (λ m. range_with_len m (n - a)) (zero-add a) in
    rw dropped (sym (take_range k a (n - a) (omega arith)))

-- What a search for the first number that passes a test finds.

pub found_first : (p : ℕ → Bool) (n a i : ℕ) → a ≤ i → i < a + n → p i ≡ true
    → ((j : ℕ) → a ≤ j → j < i → p j ≡ false) → find p (range_with_len a n) ≡ Some i
found_first p zero a i l h t fails = absurd (omega arith)
found_first p (suc n) a i l h t fails = grind (arith, nat_tests, found_first p n (a + 1) i)

pub found_none : (p : ℕ → Bool) (n a : ℕ) → ((j : ℕ) → a ≤ j → j < a + n → p j ≡ false)
    → find p (range_with_len a n) ≡ None
found_none p zero a fails = refl
found_none p (suc n) a fails = grind (arith, nat_tests, found_none p n (a + 1))

pub record Found (p : ℕ → Bool) (a n i : ℕ) : Type 0 where
  pub from : a ≤ i
  pub below : i < a + n
  pub passes : p i ≡ true

found_by : (p : ℕ → Bool) (n a i : ℕ) (b : Bool) → p a ≡ b
    → find p (range_with_len a (suc n)) ≡ Some i
    → (find p (range_with_len (a + 1) n) ≡ Some i → Found p (a + 1) n i) → Found p a (suc n) i
found_by p n a i true t e later = grind (arith, nat_tests, same_Some)
found_by p n a i false t e later = grind (arith, nat_tests)

pub found : (p : ℕ → Bool) (n a i : ℕ) → find p (range_with_len a n) ≡ Some i → Found p a n i
found p zero a i e = absurd (none-some i e)
found p (suc n) a i e = found_by p n a i (p a) refl e (found p n (a + 1) i)

passes_by : (p : ℕ → Bool) (n a i : ℕ) (b : Bool) → p a ≡ b
    → find p (range_with_len a (suc n)) ≡ None
    → p i ≡ true → a ≤ i → (find p (range_with_len (a + 1) n) ≡ None → a + 1 ≤ i → ⊥) → ⊥
passes_by p n a i true q e t l later = let x : ◌≡◌ {A = Option ℕ} (Some a) None = rw q at e in cc
passes_by p n a i false q e t l later = grind (arith, nat_tests)

pub none_passes : (p : ℕ → Bool) (n a i : ℕ) → find p (range_with_len a n) ≡ None
    → a ≤ i → i < a + n → p i ≡ true → ⊥
none_passes p zero a i e l h t = absurd (omega arith)
none_passes p (suc n) a i e l h t = grind (arith, nat_tests, passes_by, none_passes p n)

-- Filters over the numbers from one on, which leave the numbers in their order.

-- the numbers from a on, n of them, that pass
abbrev kept : (ℕ → Bool) → ℕ → ℕ → List ℕ
kept p n a = filter p (range_with_len a n)

pub same_kept : (p q : ℕ → Bool) (n a : ℕ) → ((j : ℕ) → a ≤ j → j < a + n → p j ≡ q j)
    → filter p (range_with_len a n) ≡ filter q (range_with_len a n)
same_kept p q zero a e = refl
same_kept p q (suc n) a e = grind (arith, nat_tests, same_kept p q n (a + 1))

none_kept : (p : ℕ → Bool) (n a : ℕ) → ((j : ℕ) → a ≤ j → p j ≡ false) → kept p n a ≡ []
none_kept p zero a e = refl
none_kept p (suc n) a e = grind (arith, nat_tests, none_kept p n)

-- r passes where p or q does, and nothing that passes p stands after what passes q
record Parts (r p q : ℕ → Bool) : Type 0 where
  left : (j : ℕ) → p j ≡ true → r j ≡ true
  right : (j : ℕ) → q j ≡ true → r j ≡ true
  neither : (j : ℕ) → p j ≡ false → q j ≡ false → r j ≡ false
  before : (i j : ℕ) → q i ≡ true → i ≤ j → p j ≡ false

parts_by : (r p q : ℕ → Bool) → Parts r p q → (n a : ℕ) (s t : Bool) → p a ≡ s → q a ≡ t
    → kept r n (a + 1) ≡ kept p n (a + 1) ++ kept q n (a + 1)
    → kept r (suc n) a ≡ kept p (suc n) a ++ kept q (suc n) a
parts_by r p q h n a true true e d later = grind (arith, nat_tests)
parts_by r p q h n a true false e d later = rw (e, d, h.left a e, later) refl
parts_by r p q h n a false true e d later = grind (arith, nat_tests, none_kept)
parts_by r p q h n a false false e d later = rw (e, d, h.neither a e d) later

parts : (r p q : ℕ → Bool) → Parts r p q → (n a : ℕ) → kept r n a ≡ kept p n a ++ kept q n a
parts r p q h zero a = refl
parts r p q h (suc n) a = parts_by r p q h n a (p a) (q a) refl refl (parts r p q h n (a + 1))

range-more : (n a : ℕ) → range_with_len a (suc n) ≡ range_with_len a n ++ (a + n) ∷ []
range-more zero a = let e : a ≡ a + 0 = omega arith in ap (λ k. k ∷ []) e
range-more (suc n) a = grind (arith, nat_tests, range-more n (a + 1))

flat_map-more : (g : ℕ → List ℕ) (n : ℕ)
    → flat_map g (range_with_len 0 (suc n)) ≡ flat_map g (range_with_len 0 n) ++ g n
flat_map-more g n =
    ap (flat_map g) (range-more n 0)
    ∙ (flat_map-append g (range_with_len 0 n) ((0 + n) ∷ []) ∙ rw zero-add (simp append-nil))

-- places from a on, before a + n
abbrev pub among : ℕ → ℕ → ℕ → Bool
among a n q = leb a q && ltb q (a + n)

one_more_part : (f : ℕ → ℕ) → ((i j : ℕ) → i ≤ j → f i ≤ f j) → (a n : ℕ)
    → Parts (λ x. among a (suc n) (f x)) (λ x. among a n (f x)) (λ x. f x == a + n)
one_more_part f ordered a n = grind (arith, nat_tests)

-- what lies at the places of a range, place by place
pub place_by_place : (f : ℕ → ℕ) → ((i j : ℕ) → i ≤ j → f i ≤ f j) → (a n m : ℕ)
    → filter (λ x. among a n (f x)) (range_with_len 0 m)
    ≡ flat_map (λ k. filter (λ x. f x == a + k) (range_with_len 0 m)) (range_with_len 0 n)
place_by_place f ordered a zero m = grind (arith, nat_tests, none_kept, among)
place_by_place f ordered a (suc n) m =
    let whole = parts _ _ _ (one_more_part f ordered a n) m 0 in
    rw (whole, place_by_place f ordered a n m)
    (sym (flat_map-more (λ k. kept (λ x. f x == a + k) m 0) n))

-- What the readers of a board are by its levels ---------------------------------------------------

past : (ls : List (List ℕ)) (i : ℕ) → slice_get ls i ≡ None → get_or ls i [] ≡ []
past ls i e = rw (← unwrap_or-slice_get ls i []) (rw e refl)

pub children-none : (b : BoardValue) (n : Node) → level_at b n.level ≡ None → children b n ≡ 0
children-none b n e = grind (arith, nat_tests, past)

children-some : (b : BoardValue) (n : Node) (w : List ℕ) → level_at b n.level ≡ Some w
    → children b n ≡ get_or w n.place 0
children-some b n w e = grind (arith, nat_tests, get_or_from_slice_get)

first_child-some : (b : BoardValue) (n : Node) (w : List ℕ) → level_at b n.level ≡ Some w
    → first_child b n.level n.place ≡ sum (take n.place w)
first_child-some b n w e = grind (arith, nat_tests, get_or_from_slice_get)

pub child-none : (b : BoardValue) (n : Node) (k : ℕ) → level_at b n.level ≡ None
    → child b n k ≡ None
child-none b n k e = grind (arith, nat_tests, children-none)

abbrev pub on : ℕ → ℕ → Node
on level place = record { level = level; place = place }

pub child-some : (b : BoardValue) (n : Node) (k : ℕ) (w : List ℕ) → level_at b n.level ≡ Some w
    → child b n k ≡ option_map (on (n.level - 1)) (child_in w n.place k)
child-some b n k w e = grind (arith, nat_tests, children-some, first_child-some, ltb, on)

pub node_of-above : (b : BoardValue) (word level : ℕ) → height b < level
    → node_of b word level ≡ None
unfolding node_of
node_of-above b word level h = grind (arith, nat_tests)

pub node_of-within : (b : BoardValue) (word level : ℕ) → level ≤ height b → node_of b word level
    ≡ option_map (on level) (index_named (drop level b.levels) (word / 2 ^ (8 * level)))
unfolding node_of
node_of-within b word level h = grind (arith, nat_tests)

pub ruleset reading = (
  nat_tests,
  children-none,
  child-none,
  child-some,
  node_of-above,
  node_of-within,
)
