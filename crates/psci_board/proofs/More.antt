-- Items that follow one another: reading them one at a time.
use Rattle.std.specs.Prelude.{IfSome}
use Rattle.std.proofs.Common.{◌==◌, drop-cons}
use Rattle.std.proofs.lemmas.Bool.{eqb-true}
use Rattle.psci_board.specs.Level.{IsIndexed}
use Rattle.psci_board.specs.Grammar.{literal_at, number_at, spaced_at}
use Rattle.psci_board.specs.Verdict.{at_most, bytes_after, list_at, member_at, more_at}
use Rattle.psci_board.proofs.Ranges.{found, found_first, found_none, none_passes}
use Rattle.psci_board.proofs.Terms.{◌%◌, ◌*◌, ◌++◌, ◌+◌, ◌-◌, ◌/◌, ◌<◌, ◌∙◌, ◌∷◌, ◌≡◌, ◌≤◌, []}
use Rattle.psci_board.proofs.Terms.{add-one, address_up, AllPass, ap, append_assoc, arith, Bool}
use Rattle.psci_board.proofs.Terms.{cases_lt, child_in, common_steps, cond, cond_some, drop}
use Rattle.psci_board.proofs.Terms.{eq-eqb, eqb, false, get_or, get_or_append_left}
use Rattle.psci_board.proofs.Terms.{get_or_default, get_or_past, get_or_push, group_of, index_in}
use Rattle.psci_board.proofs.Terms.{index_named, inl, inr, is_width, IsTree, length, length-drop}
use Rattle.psci_board.proofs.Terms.{length_push, List, ltb, nat_tests, None, Option}
use Rattle.psci_board.proofs.Terms.{option_and_then, option_and_then_some, option_map, refl}
use Rattle.psci_board.proofs.Terms.{size_below, Some, subst, suc, sum, sum_by-cons, sym, take}
use Rattle.psci_board.proofs.Terms.{then_more, true, zero, ℕ}

-- The levels of a tree, from one on ---------------------------------------------------------------

-- what stands above a level is a tree
pub IsTree-drop : (n : ℕ) (ls : List (List ℕ)) → IsTree ls → IsTree (drop n ls)
IsTree-drop zero ls t = t
IsTree-drop (suc n) [] t = t
IsTree-drop (suc n) (w ∷ ws) t = IsTree-drop n ws t.3

-- a level, and those above it
pub drop_level : (ls : List (List ℕ)) (k : ℕ) (w : List ℕ) → k < length ls → w ≡ get_or ls k w
    → drop k ls ≡ w ∷ drop (k + 1) ls
drop_level ls k w h e = rw (add-one, drop-cons ls k w) (rw (← e) refl)

pub record Level (ls : List (List ℕ)) (l : ℕ) : Type 0 where
  pub size : size_below (drop l ls) ≡ sum (get_or ls l [])
  pub above : size_below (drop (suc l) ls) ≡ length (get_or ls l [])
  pub width : AllPass is_width (get_or ls l [])

pub level : (ls : List (List ℕ)) (l : ℕ) → IsTree ls → l < length ls → Level ls l
level ls l t h =
    let w = get_or ls l [] in
    let e = drop_level ls l w h (get_or_default ls l [] w h) in
    let tree = rw e at (IsTree-drop l ls t) in
    record { size = rw e refl; above = rw (← add-one) (sym tree.0); width = tree.2 }

-- Places counted through groups -------------------------------------------------------------------

pub sum-cons : (n : ℕ) (ns : List ℕ) → sum (n ∷ ns) ≡ n + sum ns
sum-cons n ns = sum_by-cons (λ x. x) n ns

-- i is the p-th of the g-th group
pub record Stands (w : List ℕ) (i g p : ℕ) : Type 0 where
  pub group : group_of w i ≡ g
  pub place : index_in w i ≡ p
  pub inside : i < sum w

first_stands : (n p : ℕ) (ns : List ℕ) → p < n → Stands (n ∷ ns) p 0 p
first_stands n p ns h = grind (arith, nat_tests, sum-cons)

later_stands : (n : ℕ) (ns : List ℕ) (i j g p : ℕ) → i ≡ n + j → Stands ns j g p
    → Stands (n ∷ ns) i (suc g) p
later_stands n ns i j g p e h = grind (arith, nat_tests, ltb, sum-cons)

pub stands_at : (w : List ℕ) (g p i : ℕ) → g < length w → p < get_or w g 0
    → i ≡ sum (take g w) + p → Stands w i g p
stands_at [] g p i a b e = absurd (omega arith)
stands_at (n ∷ ns) zero p i a b e = grind (arith, common_steps, first_stands)
stands_at (n ∷ ns) (suc g) p i a b e =
    let j = sum (take g ns) + p in
    later_stands n ns i j g p (omega (arith, sum-cons n (take g ns)))
    (stands_at ns g p j (omega arith) b refl)

-- each i below the sum stands somewhere
pub record Counted (w : List ℕ) (i : ℕ) : Type 0 where
  pub group : group_of w i < length w
  pub place : index_in w i < get_or w (group_of w i) 0
  pub whole : sum (take (group_of w i) w) + index_in w i ≡ i

counted_by : (n : ℕ) (ns : List ℕ) (i : ℕ) (t : Bool) → ltb i n ≡ t → i < n + sum ns
    → (i - n < sum ns → Counted ns (i - n)) → Counted (n ∷ ns) i
counted_by n ns i true e h later = grind (arith, nat_tests)
counted_by n ns i false e h later = grind (arith, common_steps, sum-cons, add-one)

pub counted : (w : List ℕ) (i : ℕ) → i < sum w → Counted w i
counted [] i h = absurd (omega arith)
counted (n ∷ ns) i h = grind (arith, nat_tests, counted_by, ltb, sum-cons, counted ns)

pub in_group : (w : List ℕ) (p q : ℕ) → sum (take p w) ≤ q → q < sum (take p w) + get_or w p 0
    → group_of w q ≡ p
in_group w p q a b = elim (cases_lt p (length w)) [
  | inl m ↦ (stands_at w p (q - sum (take p w)) q m (omega arith) (omega arith)).group
  | inr m ↦ let none : get_or w p 0 ≡ 0 = get_or_past w p 0 m in absurd (omega arith)
]

pub group_inside : (w : List ℕ) (p k : ℕ) → k < get_or w p 0 → sum (take p w) + k < sum w
group_inside w p k h = grind (arith, common_steps, cases_lt, stands_at, get_or_past)

pub group_of-ordered : (w : List ℕ) (i j : ℕ) → i ≤ j → group_of w i ≤ group_of w j
group_of-ordered [] i j h = omega arith
group_of-ordered (n ∷ ns) i j h = grind (arith, nat_tests, ltb, group_of-ordered ns)

-- Numbers of children -----------------------------------------------------------------------------

pub record Width (n : ℕ) : Type 0 where
  pub some : 0 < n
  pub few : n ≤ 16

pub width : (w : List ℕ) (g : ℕ) → AllPass is_width w → g < length w → Width (get_or w g 0)
width w g h l = grind (arith, nat_tests)

pub few_at : (w : List ℕ) (g : ℕ) → AllPass is_width w → get_or w g 0 ≤ 16
few_at w g h = grind (arith, nat_tests, width, get_or_past)

-- one more child of the g-th node, in the list of the parents of all children
pub one_more_child : (w ps qs : List ℕ) (g k : ℕ) → g < length w → k < get_or w g 0
    → length ps ≡ sum (take g w) + k
    → ((i : ℕ) → i < length ps → get_or ps i 0 ≡ group_of w i) → qs ≡ ps ++ g ∷ []
    → (i : ℕ) → i < length qs → get_or qs i 0 ≡ group_of w i
one_more_child w ps qs g k h l n each e i j = elim (cases_lt i (length ps)) [
  | inl m ↦ rw (e, get_or_append_left ps (g ∷ []) 0 i m) (each i m)
  | inr m ↦
      let long : i < length (ps ++ g ∷ []) = rw e at j in
      let last : length ps ≡ i = omega (arith, length_push ps g) in
      rw (e, get_or_push ps g 0 i last) (sym (stands_at w g k i h l (omega arith)).group)
]

-- Numbers among siblings --------------------------------------------------------------------------

-- the i-th child, whose parent is the p-th node, begins at q among its siblings
pub record Numbered (w first : List ℕ) (i p : ℕ) : Type 0 where
  pub inside : p < length first
  pub starts : (q : ℕ) → q ≡ get_or first p q → q ≤ i
  pub number : (q : ℕ) → q ≡ get_or first p q → i - q ≡ index_in w i

pub numbered : (w counts first parent : List ℕ) (i p : ℕ) → counts ≡ w
    → IsIndexed counts first parent → i < sum w → p ≡ group_of w i → Numbered w first i p
numbered w counts first parent i p same indexed h e =
    grind (arith, nat_tests, counted, get_or_default)

pub ruleset rising = (nat_tests, drop_level, counted, append_assoc)

-- The affinity fields of a place, and the place that a word names ---------------------------------

pub record Digit (p a word : ℕ) : Type 0 where
  pub low : p ≡ word % 256
  pub high : a ≡ word / 256

digit : (p a word : ℕ) → p < 256 → p + 256 * a ≡ word → Digit p a word
digit p a word h e = record { low = omega arith; high = omega arith }

-- the group of a place is one of the nodes above, and its place there fits a field
pub record Fits (w : List ℕ) (ws : List (List ℕ)) (k : ℕ) : Type 0 where
  pub group : group_of w k < size_below ws
  pub place : index_in w k < 256

pub fits : (w : List ℕ) (ws : List (List ℕ)) (k : ℕ) → IsTree (w ∷ ws) → k < sum w → Fits w ws k
fits w ws k t h =
    let c = counted w k h in
    let few = few_at w (group_of w k) t.2 in
    record { group = omega (arith, c.group, t.0); place = omega (arith, c.place, few) }

-- the fields of a place, one level up
pub fields : (w : List ℕ) (ws : List (List ℕ)) (k word : ℕ) → IsTree (w ∷ ws) → k < sum w
    → address_up (w ∷ ws) k ≡ word → Digit (index_in w k) (address_up ws (group_of w k)) word
fields w ws k word t h e = digit _ _ word (fits w ws k t h).place e

-- different places have different fields
pub address_up-injective : (ws : List (List ℕ)) (i j : ℕ) → IsTree ws → i < size_below ws
    → j < size_below ws → address_up ws i ≡ address_up ws j → i ≡ j
address_up-injective [] i j t h k e = omega arith
address_up-injective (w ∷ ws) i j t h k e =
    grind (arith, nat_tests, counted, fields, fits, address_up-injective ws)

-- Names -------------------------------------------------------------------------------------------

abbrev has_word : List (List ℕ) → ℕ → ℕ → Bool
has_word ws word i = address_up ws i == word

pub named_at : (ws : List (List ℕ)) (word i : ℕ) → IsTree ws → i < size_below ws
    → address_up ws i ≡ word → index_named ws word ≡ Some i
named_at ws word i t h e =
    found_first (has_word ws word) (size_below ws) 0 i (omega arith) (omega arith) (eq-eqb _ _ e)
    (λ j l m. other j m (eqb (address_up ws j) word) refl)
  where
    other : (j : ℕ) → j < i → (b : Bool) → eqb (address_up ws j) word ≡ b
        → eqb (address_up ws j) word ≡ false
    other j m true q =
        let alike : address_up ws j ≡ address_up ws i = cc (eqb-true (address_up ws j) word q) in
        absurd (omega (arith, address_up-injective ws j i t (omega arith) h alike))
    other j m false q = q

pub record Names (ws : List (List ℕ)) (word i : ℕ) : Type 0 where
  pub inside : i < size_below ws
  pub address : address_up ws i ≡ word

pub named_is : (ws : List (List ℕ)) (word i : ℕ) → index_named ws word ≡ Some i → Names ws word i
named_is ws word i e = grind (arith, nat_tests, found, has_word, eqb-true)

pub named_none : (ws : List (List ℕ)) (word i : ℕ) → index_named ws word ≡ None → i < size_below ws
    → address_up ws i ≡ word → ⊥
named_none ws word i e h a =
    none_passes (has_word ws word) (size_below ws) 0 i e (omega arith) (omega arith) (eq-eqb _ _ a)

-- none, where each place has another word
pub none_named : (ws : List (List ℕ)) (word : ℕ)
    → ((i : ℕ) → i < size_below ws → address_up ws i ≡ word → ⊥) → index_named ws word ≡ None
none_named ws word other = grind (arith, nat_tests, found_none, has_word, eqb, eqb-true)

-- One level up, a word without its lowest field ------------------------------------------------

pub named_below_none : (w : List ℕ) (ws : List (List ℕ)) (word : ℕ) → IsTree (w ∷ ws)
    → index_named ws (word / 256) ≡ None → index_named (w ∷ ws) word ≡ None
named_below_none w ws word t e = none_named (w ∷ ws) word (λ i h a.
    let f = fields w ws i word t h a in
    named_none ws (word / 256) (group_of w i) e (fits w ws i t h).group f.high)

child_by : (w : List ℕ) (ws : List (List ℕ)) (g word : ℕ) (b : Bool) → IsTree (w ∷ ws)
    → index_named ws (word / 256) ≡ Some g → ltb (word % 256) (get_or w g 0) ≡ b
    → index_named (w ∷ ws) word ≡ cond b (Some (sum (take g w) + word % 256)) None
child_by w ws g word true t e b =
    let n = named_is ws (word / 256) g e in
    let i = sum (take g w) + word % 256 in
    let inside : word % 256 < get_or w g 0 = grind (arith, nat_tests) in
    let s = stands_at w g (word % 256) i (omega (arith, n.inside, t.0)) inside refl in
    named_at (w ∷ ws) word i t s.inside (rw (s.place, s.group, n.address) (omega arith))
child_by w ws g word false t e b = none_named (w ∷ ws) word (λ i h a.
    let past : get_or w g 0 ≤ word % 256 = grind (arith, nat_tests) in
    let c = counted w i h in
    let f = fields w ws i word t h a in
    let n = named_is ws (word / 256) g e in
    let same : group_of w i ≡ g =
    address_up-injective ws (group_of w i) g t.3 (fits w ws i t h).group n.inside
    (cc (f.high, n.address)) in
    let small : index_in w i < get_or w g 0 = rw same at c.place in
    absurd (omega (arith, small, f.low)))

pub named_below : (w : List ℕ) (ws : List (List ℕ)) (g word : ℕ) → IsTree (w ∷ ws)
    → index_named ws (word / 256) ≡ Some g → index_named (w ∷ ws) word ≡ child_in w g (word % 256)
named_below w ws g word t e = child_by w ws g word (ltb (word % 256) (get_or w g 0)) t e refl

-- More --------------------------------------------------------------------------------------------

-- what is left is no longer than the text
abbrev pub Shortens : {A : Type 0} → (List ℕ → Option (A × List ℕ)) → Type 0
Shortens {A} item = (bytes : List ℕ) (x : A × List ℕ) → item bytes ≡ Some x
    → length x.1 ≤ length bytes

pub literal_shortens : (word bytes rest : List ℕ) → literal_at word bytes ≡ Some rest
    → length rest ≤ length bytes
unfolding literal_at
literal_shortens [] bytes rest e = let same : bytes ≡ rest = cc in omega (arith, ap length same)
literal_shortens (w ∷ ws) [] rest e = cc
literal_shortens (w ∷ ws) (b ∷ bs) rest e =
    grind (arith, nat_tests, eqb, literal_shortens ws bs rest)

pub number_shortens : Shortens number_at
unfolding number_at
number_shortens bytes x e = grind (arith, nat_tests, cond_some, length-drop)

-- Items each of which leaves no more than the text.
module _ {A : Type 0} (item : List ℕ → Option (A × List ℕ)) (s : Shortens item) where
  spaced_by : (bs : List ℕ) (x : A × List ℕ) (t : Bool)
      → option_and_then item (cond t (Some bs) None) ≡ Some x → length x.1 ≤ length bs
  spaced_by bs x true e = s bs x e
  spaced_by bs x false e = cc

  pub spaced_shortens : (bytes : List ℕ) (x : A × List ℕ) → spaced_at item bytes ≡ Some x
      → length x.1 < length bytes
  unfolding spaced_at literal_at
  spaced_shortens [] x e = cc
  spaced_shortens (b ∷ bs) x e = omega (arith, spaced_by bs x (eqb b 32) e)

  then_same : (bytes : List ℕ) (f g : List ℕ → List A × List ℕ) (o : Option (A × List ℕ))
      → ((x : A × List ℕ) → o ≡ Some x → f x.1 ≡ g x.1)
      → then_more bytes f o ≡ then_more bytes g o
  then_same bytes f g None h = refl
  then_same bytes f g (Some x) h = ap (λ r. (x.0 ∷ r.0, r.1)) (h x refl)

  -- enough is as good as more
  same_fuel : (n m : ℕ) (bytes : List ℕ) → length bytes ≤ n → length bytes ≤ m
      → at_most item n bytes ≡ at_most item m bytes
  unfolding at_most spaced_at literal_at
  same_fuel zero zero bytes p q = refl
  same_fuel zero (suc m) [] p q = refl
  same_fuel zero (suc m) (b ∷ bs) p q = absurd (omega arith)
  same_fuel (suc n) zero [] p q = refl
  same_fuel (suc n) zero (b ∷ bs) p q = absurd (omega arith)
  same_fuel (suc n) (suc m) bytes p q =
      grind (arith, nat_tests, then_same, spaced_shortens, same_fuel n m)

  -- one item, and then more
  more_unrolled : (bytes : List ℕ)
      → more_at item bytes ≡ then_more bytes (more_at item) (spaced_at item bytes)
  unfolding more_at at_most
  more_unrolled bytes = grind (arith, nat_tests, same_fuel, then_same, spaced_shortens)

  pub more_some : (bytes : List ℕ) (x : A) (rest : List ℕ) → spaced_at item bytes ≡ Some (x, rest)
      → more_at item bytes ≡ (x ∷ (more_at item rest).0, (more_at item rest).1)
  more_some bytes x rest e = more_unrolled bytes ∙ ap (then_more bytes (more_at item)) e

  pub more_none : (bytes : List ℕ) → spaced_at item bytes ≡ None → more_at item bytes ≡ ([], bytes)
  more_none bytes e = more_unrolled bytes ∙ ap (then_more bytes (more_at item)) e

  -- a list, once its items are read: as its bracket is closed, or not
  pub list_ended : (bytes open_ rest0 rest : List ℕ) (first : A)
      → literal_at (40 ∷ []) bytes ≡ Some open_ → item open_ ≡ Some (first, rest0)
      → (more_at item rest).1 ≡ (more_at item rest0).1 → spaced_at item rest ≡ None
      → list_at item bytes
      ≡ option_map (λ close. (first ∷ (more_at item rest0).0, close)) (literal_at (41 ∷ []) rest)
  unfolding list_at
  list_ended bytes open_ rest0 rest first a b same none = grind (arith, nat_tests, more_none)

  at_most_shortens : (n : ℕ) (bytes : List ℕ) → length (at_most item n bytes).1 ≤ length bytes
  unfolding at_most
  at_most_shortens zero bytes = omega arith
  at_most_shortens (suc n) bytes = grind (arith, nat_tests, spaced_shortens, at_most_shortens n)

  pub list_shortens : Shortens (list_at item)
  unfolding list_at more_at
  list_shortens bytes x e =
      option_and_then_some _ (literal_at (40 ∷ []) bytes) x e (λ open_ a e1.
      option_and_then_some _ (item open_) x e1 (λ first b e2.
      option_and_then_some _ (literal_at (41 ∷ []) (at_most item (length first.1) first.1).1) x e2
      (λ close d e3.
      let r : close ≡ x.1 = cc in
      let rest = at_most_shortens (length first.1) first.1 in
      omega (
        arith,
        ap length r,
        literal_shortens _ _ _ d,
        rest,
        s open_ first b,
        literal_shortens _ _ _ a,
      ))))

pub member_shortens : Shortens member_at
unfolding member_at
member_shortens bytes x e =
    grind (arith, nat_tests, option_and_then_some, list_shortens, number_shortens)

-- what was read, where its rest and a fact on it are known
pub read_some : {A : Type 0} (P : A × List ℕ → Type 0) (o : Option (A × List ℕ)) (rest : List ℕ)
    → Some rest ≡ option_map bytes_after o → IfSome o P
    → (x : A) × (o ≡ Some (x, rest)) × P (x, rest)
read_some P None rest e h = cc
read_some P (Some x) rest e h = let r : x.1 ≡ rest = cc in
    (x.0, ap (λ y. Some (x.0, y)) r, subst (λ y. P (x.0, y)) r h)

pub read_none : {A : Type 0} (o : Option (A × List ℕ)) → None ≡ option_map bytes_after o → o ≡ None
read_none None e = refl
read_none (Some x) e = cc

-- nothing is read of a list whose bracket is not opened, or whose first item is none
pub list_unopened : {A : Type 0} (item : List ℕ → Option (A × List ℕ)) (bytes : List ℕ)
    → literal_at (40 ∷ []) bytes ≡ None → list_at item bytes ≡ None
unfolding list_at
list_unopened item bytes a = rw a refl

pub list_empty : {A : Type 0} (item : List ℕ → Option (A × List ℕ)) (bytes open_ : List ℕ)
    → literal_at (40 ∷ []) bytes ≡ Some open_ → item open_ ≡ None
    → list_at item bytes ≡ None
unfolding list_at
list_empty item bytes open_ a b = rw (a, b) refl

-- a space and an item, and a space without one
pub spaced_some : {A : Type 0} (item : List ℕ → Option (A × List ℕ)) (bytes after : List ℕ)
    (x : A × List ℕ)
    → literal_at (32 ∷ []) bytes ≡ Some after → item after ≡ Some x → spaced_at item bytes ≡ Some x
unfolding spaced_at
spaced_some item bytes after x a b = rw (a, b) refl

pub spaced_none : {A : Type 0} (item : List ℕ → Option (A × List ℕ)) (bytes after : List ℕ)
    → literal_at (32 ∷ []) bytes ≡ Some after → item after ≡ None → spaced_at item bytes ≡ None
unfolding spaced_at
spaced_none item bytes after a b = rw (a, b) refl

pub unspaced : {A : Type 0} (item : List ℕ → Option (A × List ℕ)) (bytes : List ℕ)
    → literal_at (32 ∷ []) bytes ≡ None → spaced_at item bytes ≡ None
unfolding spaced_at
unspaced item bytes a = rw a refl

space_or_bracket : (b : ℕ) (bs after : List ℕ) → cond (eqb b 32) (Some bs) None ≡ Some after
    → cond (eqb b 41) (Some bs) None ≡ None
space_or_bracket b bs after e = grind (arith, nat_tests, cond_some)

pub spaced_unclosed : (bytes after : List ℕ) → literal_at (32 ∷ []) bytes ≡ Some after
    → literal_at (41 ∷ []) bytes ≡ None
unfolding literal_at
spaced_unclosed [] after a = refl
spaced_unclosed (b ∷ bs) after a = space_or_bracket b bs after a

pub rest_again : {A : Type 0} (x : A) (o : Option (List ℕ))
    → option_map (bytes_after {A = A}) (option_map (λ close. (x, close)) o) ≡ o
rest_again x None = refl
rest_again x (Some close) = refl

pub if_kept : {A : Type 0} (P : A → Type 0) (x : A) (o : Option (List ℕ)) → P x
    → IfSome {T = A × List ℕ} (option_map (λ close. (x, close)) o) (λ y. P y.0)
if_kept P x None h = tt
if_kept P x (Some close) h = h
