-- What the MPIDRs of a description that has no fault name: each its core, and the boot core the
-- core that the firmware numbers 0.
use Rattle.std.proofs.lemmas.Bool.{cases_Bool, leb-true}
use Rattle.std.proofs.lemmas.List.{get_or_default}
use Rattle.std.proofs.lemmas.List.Folds.{Any-from_list_any}
use Rattle.std.proofs.lemmas.List.Sums.{position_or_len_is, sum_by-cons}
use Rattle.psci_board.specs.Board.{child, child_number}
use Rattle.psci_fw_laws.specs.Renumbered.{swap}
use Rattle.psci_platform.specs.Cores.{field_of}
use Rattle.psci_platform.specs.Swaps.{is_on_path, is_symmetric, moved, moved_in, number_of}
use Rattle.psci_platform.specs.Swaps.{other_number}
use Rattle.psci_platform.proofs.ByWord.{passed}
use Rattle.psci_platform.proofs.Swapped.{all_of, left}
use Rattle.psci_platform.proofs.Words.{◌*◌, ◌+◌, ◌/◌, ◌<◌, ◌==◌, ◌^◌, ◌∙◌, ◌∷◌, ◌≡◌, ◌≤◌, []}
use Rattle.psci_platform.proofs.Words.{address, ap, arith, BoardValue, Bool, boot_place}
use Rattle.psci_platform.proofs.Words.{cases_lt, cond, core_named, cores, count_by}
use Rattle.psci_platform.proofs.Words.{DescriptionValue, domain_of, eq-eqb, eqb-true, false}
use Rattle.psci_platform.proofs.Words.{fault_of, goes_along, has_same, height, if◌then◌else◌}
use Rattle.psci_platform.proofs.Words.{inl, inr, is_swapped, IsBoard, le-ltb, length, List}
use Rattle.psci_platform.proofs.Words.{list_any_at, lt-ltb, nat_le, nat_lt, nat_tests, Node}
use Rattle.psci_platform.proofs.Words.{None, none-some, number_named, Option, parent, ParentLaws}
use Rattle.psci_platform.proofs.Words.{PathLaws, position-Some, position_or_len, refl, SizeLaws}
use Rattle.psci_platform.proofs.Words.{slice_index, Some, suc, swap_for, sym, true, unwrap_or}
use Rattle.psci_platform.proofs.Words.{up, WordLaws, zero, ℕ}

-- The affinity word of a core by the numbers of the domains on its path ---------------------------

-- a number, or none
picked : (l h x : ℕ) → l < h → (if nat_lt l h then x else 0) ≡ x
picked l h x below = grind (arith, nat_tests)

dropped : (l h x : ℕ) → h ≤ l → (if nat_lt l h then x else 0) ≡ 0
dropped l h x above = grind (arith, nat_tests)

module _ (b : BoardValue) (parents : ParentLaws b) (paths : PathLaws b) (words : WordLaws b)
    (c : ℕ) (inside : c < cores b) where
  -- the number of a core's domain of a level, below the fields of the domains above
  each : (l : ℕ) → l < height b → address b l (up b l c)
      ≡ unwrap_or (child_number b (domain_of b c l)) 0 + 256 * address b (suc l) (up b (suc l) c)
  each l below =
      let above = parents.path c l inside below in
      let k = parents.numbered (domain_of b c (suc l)) (domain_of b c l) above in
      let down = parents.child (domain_of b c (suc l)) (domain_of b c l) k.0 above k.1 in
      rw k.1 (words.child_fields (domain_of b c (suc l)) (domain_of b c l) k.0 down)

  -- the fields of a core's domain of a level and of those above: none from the system on
  unfoldable rest : ℕ → ℕ
  rest l = if nat_lt l (height b) then address b l (up b l c) else 0

  rest_above : (l : ℕ) → height b ≤ l → rest l ≡ 0
  unfolding rest
  rest_above l above = dropped l (height b) (address b l (up b l c)) above

  system : (l : ℕ) → height b ≡ l → address b l (up b l c) ≡ 0
  system l e = rw (sym e) (rw (paths.system c inside) words.system)

  rest_is : (l : ℕ) → l ≤ height b → rest l ≡ address b l (up b l c)
  unfolding rest
  rest_is l most = elim (cases_lt l (height b)) [
    | inl below ↦ picked l (height b) (address b l (up b l c)) below
    | inr above ↦
        let e : height b ≡ l = omega (arith, most, above) in
        dropped l (height b) (address b l (up b l c)) above ∙ sym (system l e)
  ]

  one_up : (l : ℕ) → rest l ≡ field_of b c l + 256 * rest (suc l)
  unfolding field_of
  one_up l = elim (cases_lt l (height b)) [
    | inl below ↦ omega (
      arith,
      each l below,
      rest_is l (omega (arith, below)),
      rest_is (suc l) (omega (arith, below)),
      picked l (height b) (unwrap_or (child_number b (domain_of b c l)) 0) below,
    )
    | inr above ↦ omega (
      arith,
      rest_above l above,
      rest_above (suc l) (omega (arith, above)),
      dropped l (height b) (unwrap_or (child_number b (domain_of b c l)) 0) above,
    )
  ]

  -- the affinity word of a core has the fields of its domains
  pub fields : height b ≤ 3
      → address b 0 c ≡ field_of b c 0 + 256 * field_of b c 1 + 65536 * field_of b c 2
  fields high =
      let core : rest 0 ≡ address b 0 c =
      rest_is 0 (omega arith) ∙ ap (address b 0) (paths.core c) in
      omega (arith, core, one_up 0, one_up 1, one_up 2, rest_above 3 high)

-- Where the boot core is core 0, nothing is swapped -----------------------------------------------

-- What the proofs stand on.
pub record Laws (b : BoardValue) : Type 0 where
  pub sizes : SizeLaws b
  pub paths : PathLaws b
  pub parents : ParentLaws b

pub record BoardLaws (b : BoardValue) : Type 0 where
  pub board : IsBoard b
  pub tree : Laws b
  pub words : WordLaws b

pub laws_on : (b : BoardValue) → IsBoard b → SizeLaws b → PathLaws b → ParentLaws b → WordLaws b
    → BoardLaws b
laws_on b board sizes paths parents words = record {
  board = board;
  tree = record { sizes = sizes; paths = paths; parents = parents };
  words = words;
}

up_first : (b : BoardValue) (l : ℕ) → Laws b → l ≤ height b → up b l 0 ≡ 0
up_first b l laws h =
    let n : Node = record { level = l; place = 0 } in
    let found = laws.paths.some_core n (record { level = h; place = laws.sizes.some l }) in
    let at : up b l found.0 ≡ 0 = found.2 in
    let less : up b l 0 ≤ up b l found.0 = laws.paths.ordered 0 found.0 l (omega arith) in
    omega (arith, at, less)

-- a child of this place has no greater number
child_place : (b : BoardValue) (n m : Node) (k : ℕ) → child b n k ≡ Some m → k ≤ m.place
child_place b n m k e = grind (arith, nat_tests)

-- the first node of a level is the first of its siblings
first_number : (b : BoardValue) (l : ℕ) → Laws b → number_of b (domain_of b 0 l) ≡ 0
first_number b l laws = elim (cases_lt l (height b)) [
  | inl h ↦
      let m : Node = domain_of b 0 l in
      let n : Node = domain_of b 0 (suc l) in
      let over : parent b m ≡ Some n = laws.parents.path 0 l (laws.sizes.some 0) h in
      let k = laws.parents.numbered n m over in
      let down = laws.parents.child n m k.0 over k.1 in
      let least : k.0 ≤ up b l 0 = child_place b n m k.0 down in
      let zero : up b l 0 ≡ 0 = up_first b l laws (omega (arith, h)) in
      ap (λ (o : Option ℕ). unwrap_or o 0) k.1 ∙ omega (arith, least, zero)
  | inr h ↦ rw (le-ltb l (height b) h) refl
]

swap_none : (t : Bool) (m : ℕ) → (if t then swap 0 0 m else m) ≡ m
swap_none t m = grind (arith, nat_tests)

own_number : (b : BoardValue) (above n : Node) → Laws b → other_number b 0 above n ≡ number_of b n
own_number b above n laws =
    rw (first_number b n.level laws) (swap_none (is_on_path b 0 above) (number_of b n))

own_child : (b : BoardValue) (above n : Node) → Laws b → parent b n ≡ Some above
    → child b above (number_of b n) ≡ Some n
own_child b above n laws e =
    let k = laws.parents.numbered above n e in
    ap (child b above) (ap (λ (o : Option ℕ). unwrap_or o 0) k.1)
    ∙ laws.parents.child above n k.0 e k.1

own_in : (b : BoardValue) (levels : ℕ) (n : Node) (o : Option Node) → Laws b → parent b n ≡ o
    → moved_in b 0 levels n ≡ n
own_in b zero n o laws e = refl
own_in b (suc levels) n None laws e = rw e refl
own_in b (suc levels) n (Some above) laws e =
    let same : moved_in b 0 levels above ≡ above =
    own_in b levels above (parent b above) laws refl in
    rw (e, same, own_number b above n laws, own_child b above n laws e) refl

pub own : (b : BoardValue) (n : Node) → Laws b → moved b 0 n ≡ n
unfolding moved
own b n laws = own_in b 3 n (parent b n) laws refl

pub own_place : (b : BoardValue) (level place : ℕ) → Laws b → swap_for b 0 level place ≡ place
own_place b level place laws =
    ap (λ (n : Node). n.place) (own b (record { level = level; place = place }) laws)

-- The test --------------------------------------------------------------------------------------

goes : (b : BoardValue) (c level : ℕ) → Laws b → goes_along b 0 c level ≡ true
goes b c level laws =
    rw (own_place b 0 c laws, own_place b level (up b level c) laws) (grind (arith, nat_tests))

stays : (b : BoardValue) (c : ℕ) → Laws b → c < cores b → is_swapped b 0 c ≡ true
stays b c laws h =
    let is : swap_for b 0 0 c ≡ c = own_place b 0 c laws in
    rw (
      goes b c 1 laws,
      goes b c 2 laws,
      goes b c 3 laws,
      is,
      is,
      lt-ltb c (cores b) h,
      eq-eqb c c refl,
    ) refl

pub boots_first : (b : BoardValue) → Laws b → is_symmetric b 0 ≡ true
unfolding is_symmetric
boots_first b laws =
    rw (eq-eqb _ 0 (own_place b 0 0 laws)) (all_of (is_swapped b 0) 0 (cores b) (λ k low high.
    stays b k laws (omega (arith, high))))

-- Named -------------------------------------------------------------------------------------------

-- Each core -------------------------------------------------------------------------------------

pub counted_cons : (q : ℕ → Bool) (x : ℕ) (xs : List ℕ)
    → count_by q (x ∷ xs) ≡ cond (q x) 1 0 + count_by q xs
counted_cons q x xs = sum_by-cons _ x xs

once : (q : ℕ → Bool) (xs : List ℕ) (c : ℕ) → c < length xs → q (slice_index xs c) ≡ true
    → 1 ≤ count_by q xs
once q [] c below e = absurd (omega (arith, below))
once q (x ∷ xs) zero below e = grind (arith, counted_cons q x xs)
once q (x ∷ xs) (suc c) below e = grind (arith, counted_cons q x xs, once q xs c)

twice : (q : ℕ → Bool) (xs : List ℕ) (k c : ℕ) → k < c → c < length xs
    → q (slice_index xs k) ≡ true → q (slice_index xs c) ≡ true → 2 ≤ count_by q xs
twice q [] k c before below e f = absurd (omega (arith, below))
twice q (x ∷ xs) k zero before below e f = absurd (omega (arith, before))
twice q (x ∷ xs) zero (suc c) before below e f = grind (arith, counted_cons q x xs, once q xs c)
twice q (x ∷ xs) (suc k) (suc c) before below e f =
    grind (arith, counted_cons q x xs, twice q xs k c)

-- where no two are the same, two places have different ones
differ : (xs : List ℕ) (k c : ℕ) → has_same xs ≡ false → k < c → c < length xs
    → slice_index xs k ≡ slice_index xs c → ⊥
differ xs k c none before below same =
    let x = slice_index xs c in
    let e : (slice_index xs k == x) ≡ true = grind (arith, nat_tests, same) in
    let f : (slice_index xs c == x) ≡ true = grind (arith, nat_tests) in
    let two = twice (λ y. y == x) xs k c before below e f in
    let more : nat_lt 1 (count_by (λ y. y == x) xs) ≡ true = grind (arith, nat_tests, two) in
    let some : has_same xs ≡ true =
    list_any_at (λ z. nat_lt 1 (count_by (λ y. y == z) xs)) xs c 0 below more in
    cc

-- an MPIDR has other fields than one that is another
other : (m x : ℕ) → (m ≡ x → ⊥) → (m / 2 ^ (8 * 0) == x / 2 ^ (8 * 0)) ≡ false
other m x apart = grind (arith, nat_tests)

pub core_is_named : (d : DescriptionValue) (b : BoardValue) (boot c : ℕ)
    → fault_of d b boot ≡ None → c < cores b
    → core_named d b (slice_index d.mpidrs c) 0 ≡ Some c
core_is_named d b boot c none inside =
    let own = passed d b boot none in
    let below : c < length d.mpidrs = omega (arith, inside, own.count) in
    let x = slice_index d.mpidrs c in
    let first : position_or_len (λ m. m / 2 ^ (8 * 0) == x / 2 ^ (8 * 0)) d.mpidrs ≡ c =
    position_or_len_is _ d.mpidrs c 0 (omega (arith, below))
    (λ k before. other (slice_index d.mpidrs k) x (differ d.mpidrs k c own.same before below))
    (λ _. grind (arith, nat_tests)) in
    let low : nat_le 0 (height b) ≡ true = grind (arith, nat_tests) in
    let size : nat_lt c (length d.mpidrs) ≡ true = grind (arith, nat_tests) in
    rw (low, first, size) refl

-- A core of the tree that a word names at a level has the word's fields from the level up.
pub record Found (d : DescriptionValue) (b : BoardValue) (word level place : ℕ) : Type 0 where
  pub low : level ≤ height b
  pub inside : place < length d.mpidrs
  pub fields : slice_index d.mpidrs place / 2 ^ (8 * level) ≡ word / 2 ^ (8 * level)

pub found : (d : DescriptionValue) (b : BoardValue) (word level place : ℕ)
    → core_named d b word level ≡ Some place → Found d b word level place
found d b word level place e = elim (cases_Bool (nat_le level (height b))) [
  | inl low ↦
      let at = position-Some (λ m. m / 2 ^ (8 * level) == word / 2 ^ (8 * level)) d.mpidrs place 0
      (rw low at e) in
      record { low = leb-true _ _ low; inside = at.0; fields = eqb-true _ _ at.1 }
  | inr high ↦ absurd (none-some place (rw high at e))
]

-- The boot core ---------------------------------------------------------------------------------

-- it is a core of the board
boots : (d : DescriptionValue) (b : BoardValue) (boot : ℕ) → fault_of d b boot ≡ None
    → (k : ℕ) × (core_named d b boot 0 ≡ Some k)
boots d b boot none =
    let own = passed d b boot none in
    let at = Any-from_list_any (λ m. m == boot) d.mpidrs own.there in
    let is : slice_index d.mpidrs at.0 ≡ boot =
    get_or_default d.mpidrs at.0 0 at.1 at.2 ∙ at.3 ∙ eqb-true at.1 boot at.4 in
    (at.0, rw is at (core_is_named d b boot at.0 none (omega (arith, at.2, own.count))))

pub place_is : (d : DescriptionValue) (b : BoardValue) (boot k : ℕ) → core_named d b boot 0 ≡ Some k
    → boot_place d b boot ≡ k
place_is d b boot k e = ap (λ (o : Option ℕ). unwrap_or o 0) e

-- it looks as core 0 does
pub symmetric : (d : DescriptionValue) (b : BoardValue) (boot : ℕ) → Laws b
    → fault_of d b boot ≡ None → is_symmetric b (boot_place d b boot) ≡ true
symmetric d b boot laws none = elim (cases_Bool (slice_index d.mpidrs 0 == boot)) [
  | inl here ↦
      let first = core_is_named d b boot 0 none (laws.sizes.some 0) in
      ap (is_symmetric b) (place_is d b boot 0 (rw (eqb-true _ _ here) at first))
      ∙ boots_first b laws
  | inr other ↦ rw other at (passed d b boot none).first
]

zero_of : (b : BoardValue) (k : ℕ) → is_symmetric b k ≡ true → swap_for b k 0 k ≡ 0
unfolding is_symmetric
zero_of b k e = eqb-true _ _ (left (swap_for b k 0 k == 0) _ e)

pub boot_is_zero : (d : DescriptionValue) (b : BoardValue) (boot : ℕ) → Laws b
    → fault_of d b boot ≡ None → number_named d b (boot_place d b boot) boot 0 ≡ Some 0
boot_is_zero d b boot laws none =
    let k = boots d b boot none in
    let place = place_is d b boot k.0 k.1 in
    let zero = zero_of b (boot_place d b boot) (symmetric d b boot laws none) in
    rw (place, k.1) (ap (λ (c : ℕ). let o : Option ℕ = Some c in o) (rw place at zero))
