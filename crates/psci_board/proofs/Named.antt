-- Affinity words and the nodes that they name.
use Rattle.std.proofs.Math.Nat.{one-le-pow, pow-suc}
use Rattle.std.proofs.Math.Seq.{drop-cons}
use Rattle.std.proofs.lemmas.List.{drop_all}
use Rattle.psci_board.specs.Board.{address, child_number, core_of, node_of, parent, ParentLaws}
use Rattle.psci_board.specs.Board.{up, WordLaws}
use Rattle.psci_board.specs.declared.draft.Core.{Core}
use Rattle.psci_board.proofs.Paths.{child_inside, counts, inside, place_above-suc, some_core}
use Rattle.psci_board.proofs.More.{counted, drop_level, fields, fits, IsTree-drop, level}
use Rattle.psci_board.proofs.More.{named_at, named_below, named_below_none, named_is, none_named}
use Rattle.psci_board.proofs.More.{Stands, stands_at}
use Rattle.psci_board.proofs.Ranges.{node_of-above, node_of-within, on}
use Rattle.psci_board.proofs.Terms.{◌%◌, ◌&&◌, ◌*◌, ◌+◌, ◌-◌, ◌/◌, ◌<◌, ◌^◌, ◌∙◌, ◌∷◌, ◌≡◌, ◌≤◌}
use Rattle.psci_board.proofs.Terms.{[], add-one, address_up, ap, arith, BoardValue, Bool}
use Rattle.psci_board.proofs.Terms.{cases_lt, child, child_in, children, children_at, cond_some}
use Rattle.psci_board.proofs.Terms.{cores, div-div-eq-div-mul, div-one, drop, drop-length}
use Rattle.psci_board.proofs.Terms.{first_child, get_or, get_or_default, get_or_past, group_of}
use Rattle.psci_board.proofs.Terms.{HasNode, height, index_in, index_named, inl, inr, IsBoard}
use Rattle.psci_board.proofs.Terms.{IsTree, length, List, ltb, nat_tests, Node, nodes, None}
use Rattle.psci_board.proofs.Terms.{none-some, Option, option_map, place_above, pow-add, refl}
use Rattle.psci_board.proofs.Terms.{same_Some, size_below, Some, sub-one, subst, suc, sum, sym}
use Rattle.psci_board.proofs.Terms.{take, to_le_bytes, true, w64, zero, ℕ}

record NodeOf (b : BoardValue) (word l : ℕ) (n : Node) : Type 0 where
  level : n.level ≡ l
  low : l ≤ height b
  place : n.place < nodes b l
  fields : address b l n.place ≡ word / 2 ^ (8 * l)

node_by : (b : BoardValue) (word l : ℕ) (n : Node) (o : Option ℕ) → l ≤ height b
    → index_named (drop l b.levels) (word / 2 ^ (8 * l)) ≡ o → option_map (on l) o ≡ Some n
    → NodeOf b word l n
node_by b word l n None h e d = absurd (none-some n d)
node_by b word l n (Some i) h e d =
    let f = named_is (drop l b.levels) (word / 2 ^ (8 * l)) i e in
    rw (← same_Some _ _ d) (record { level = refl; low = h; place = f.inside; fields = f.address })

node_is : (b : BoardValue) (word l : ℕ) (n : Node) → node_of b word l ≡ Some n → NodeOf b word l n
node_is b word l n e = elim (cases_lt (height b) l) [
  | inl m ↦ absurd (none-some n (sym (node_of-above b word l m) ∙ e))
  | inr m ↦ node_by b word l n _ m refl (sym (node_of-within b word l m) ∙ e)
]

has_node : (b : BoardValue) (word l : ℕ) (n : Node) → NodeOf b word l n → HasNode b n
has_node b word l n h = rw h.level (record { level = h.low; place = h.place })

node_named : (b : BoardValue) → IsTree b.levels → (word : ℕ) (n : Node) → HasNode b n
    → address b n.level n.place ≡ word / 2 ^ (8 * n.level) → node_of b word n.level ≡ Some n
node_named b t word n h e = grind (arith, nat_tests, IsTree-drop, named_at, node_of-within)

record CoreOf (b : BoardValue) (word : ℕ) (c : Core) : Type 0 where
  number : c.number < cores b
  fields : address b 0 c.number ≡ word

core_by : (b : BoardValue) (word : ℕ) (c : Core) (o : Option ℕ) → index_named b.levels word ≡ o
    → option_map (λ i. record { number = i }) o ≡ Some c → CoreOf b word c
core_by b word c None e d = absurd (none-some c d)
core_by b word c (Some i) e d =
    let f = named_is b.levels word i e in
    rw (← same_Some _ _ d) (record { number = f.inside; fields = f.address })

core_is : (b : BoardValue) (word : ℕ) (c : Core) → core_of b word ≡ Some c → CoreOf b word c
unfolding core_of
core_is b word c e = core_by b word c _ refl e

pub core_inside : (b : BoardValue) (word : ℕ) (c : Core) → core_of b word ≡ Some c
    → c.number < cores b
core_inside b word c e = (core_is b word c e).number

core_named : (b : BoardValue) → IsTree b.levels → (c : ℕ) → c < cores b
    → core_of b (address b 0 c) ≡ Some (record { number = c })
unfolding core_of
core_named b t c h = rw (named_at b.levels (address b 0 c) c t h refl) refl

-- one field further
pub shifted : (a x l : ℕ) → a ≡ x / 256 → a / 2 ^ (8 * l) ≡ x / 2 ^ (8 * suc l)
shifted a x l e =
    let step : 8 * suc l ≡ 8 + 8 * l = omega arith in
    rw (e, step, pow-add 2 8 (8 * l)) (div-div-eq-div-mul x 256 (2 ^ (8 * l)))

-- the fields of a node above a place
fields_above : (ws : List (List ℕ)) (l i : ℕ) → IsTree ws → i < size_below ws → l ≤ length ws
    → address_up (drop l ws) (place_above ws l i) ≡ address_up ws i / 2 ^ (8 * l)
fields_above ws zero i t h k = omega arith
fields_above [] (suc l) i t h k = absurd (omega arith)
fields_above (w ∷ ws) (suc l) i t h k =
    grind (arith, nat_tests, fits, fields, shifted, fields_above ws l)

short : (ws : List (List ℕ)) (n i : ℕ) → IsTree ws → i < size_below ws → length ws ≤ n
    → address_up ws i < 256 ^ n
short [] n i t h k = one-le-pow n 256 (omega arith)
short (w ∷ ws) zero i t h k = absurd (omega arith)
short (w ∷ ws) (suc n) i t h k = grind (arith, nat_tests, fits, pow-suc, short ws n)

-- a child has its number in a field below those of its parent
child_place : (b : BoardValue) (l p k : ℕ) → l < height b → k < children_at b (suc l) p
    → address b l (first_child b (suc l) p + k) ≡ k + 256 * address b (suc l) p
child_place b l p k h i =
    let w = get_or b.levels l [] in
    let e = drop_level b.levels l w h (get_or_default b.levels l [] w h) in
    elim (cases_lt p (length w)) [
      | inl m ↦
          let s = stands_at w p k (sum (take p w) + k) m i refl in
          rw (e, s.place, s.group, add-one) refl
      | inr m ↦ let none : get_or w p 0 ≡ 0 = get_or_past w p 0 m in absurd (omega arith)
    ]

child_at : (b : BoardValue) → IsBoard b → (n m : Node) (k level : ℕ)
    → k < children_at b level n.place
    → record { level = level - 1; place = first_child b level n.place + k } ≡ m
    → address b m.level m.place ≡ k + 256 * address b level n.place
child_at b h n m k zero i d = absurd (omega arith)
child_at b h n m k (suc l) i d = grind (arith, nat_tests, sub-one, child_place, child_inside)

child_fields : (b : BoardValue) → IsBoard b → (n m : Node) (k : ℕ) → child b n k ≡ Some m
    → address b m.level m.place ≡ k + 256 * address b n.level n.place
child_fields b h n m k e =
    let c = cond_some (ltb k (children b n)) _ m e in
    child_at b h n m k n.level (grind (arith, nat_tests)) c.1

path_named : (b : BoardValue) → IsBoard b → (c l : ℕ) → c < cores b → l ≤ height b
    → node_of b (address b 0 c) l ≡ Some (record { level = l; place = place_above b.levels l c })
path_named b h c l k m =
    node_named b h.tree (address b 0 c) (record { level = l; place = place_above b.levels l c })
    (record { level = m; place = inside b.levels l c h.tree k m })
    (fields_above b.levels l c h.tree k m)

some_word : (b : BoardValue) → IsBoard b → (n : Node) → HasNode b n
    → (word : ℕ) × (word < 2 ^ 24) × (node_of b word n.level ≡ Some n)
some_word b h n k =
    let c = some_core b.levels n.level n.place h.tree k.level k.place in
    let named : node_of b (address b 0 c.0) n.level ≡ Some (on n.level n.place) =
    rw c.2 at (path_named b h c.0 n.level c.1 k.level) in
    (address b 0 c.0, short b.levels 3 c.0 h.tree c.1 h.high, named)

core_node : (b : BoardValue) (word : ℕ)
    → node_of b word 0 ≡ option_map (λ c. on 0 c.number) (core_of b word)
unfolding core_of
core_node b word = grind (arith, nat_tests, node_of-within, div-one, on)

pub word_laws : (b : BoardValue) → IsBoard b → WordLaws b
unfolding up
word_laws b h = record {
  system = rw (drop-length b.levels) refl;
  child_fields = child_fields b h;
  level = λ word l n e. (node_is b word l n e).level;
  node = λ word l n e. has_node b word l n (node_is b word l n e);
  fields = λ word l n e. (node_is b word l n e).fields;
  named = λ word n k e. node_named b h.tree word n k e;
  some_word = λ n k. some_word b h n k;
  core_node = λ word. core_node b word;
  core = λ word c e. (core_is b word c e).number;
  core_fields = λ word c e. (core_is b word c e).fields;
  core_named = λ c k. core_named b h.tree c k;
  short = λ c k. short b.levels 3 c h.tree k h.high;
  path = λ c l k m. path_named b h c l k m;
}

-- The place that a word names, from the highest level down.

-- a word without one field more
next_field : (word k : ℕ) → word / 2 ^ (8 * k) / 256 ≡ word / 2 ^ (8 * (k + 1))
next_field word k =
    let step : 8 * (k + 1) ≡ 8 * k + 8 = omega arith in
    rw (step, pow-add 2 (8 * k) 8) (div-div-eq-div-mul word (2 ^ (8 * k)) 256)

-- where no place is named above, none is below
none_up : (levels : List (List ℕ)) (word k : ℕ) → IsTree levels → k ≤ length levels
    → index_named (drop k levels) (word / 2 ^ (8 * k)) ≡ None → index_named levels word ≡ None
none_up levels word zero t h e = grind (arith, nat_tests, div-one)
none_up [] word (suc k) t h e = absurd (omega arith)
none_up (w ∷ ws) word (suc k) t h e =
    named_below_none w ws word t (none_up ws (word / 256) k t.3 (omega arith)
    (ap (index_named (drop k ws)) (shifted (word / 256) word k refl) ∙ e))

-- one level down
pub named_step : (levels : List (List ℕ)) (word k g : ℕ) → IsTree levels → k < length levels
    → index_named (drop (k + 1) levels) (word / 2 ^ (8 * (k + 1))) ≡ Some g
    → index_named (drop k levels) (word / 2 ^ (8 * k))
    ≡ child_in (get_or levels k []) g (word / 2 ^ (8 * k) % 256)
named_step levels word k g t h e =
    let w : List ℕ = get_or levels k [] in
    let ws : List (List ℕ) = drop (suc k) levels in
    let cut : drop k levels ≡ w ∷ ws = drop-cons levels k [] h in
    let next : suc k ≡ k + 1 = omega arith in
    let above : index_named ws (word / 2 ^ (8 * k) / 256) ≡ Some g =
    ap (index_named ws) (next_field word k)
    ∙ ap (λ j. index_named (drop j levels) (word / 2 ^ (8 * (k + 1)))) next
    ∙ e in
    ap (λ ls. index_named ls (word / 2 ^ (8 * k))) cut
    ∙ named_below w ws g (word / 2 ^ (8 * k)) (subst IsTree cut (IsTree-drop k levels t)) above

-- the byte of this number of a word is its field for this level
byte_of : (word k : ℕ) → k < 3
    → get_or (to_le_bytes w64 word) k 0 ≡ word / 2 ^ (8 * k) % 256
byte_of word zero h = sym (ap (λ w. w % 256) (div-one word))
byte_of word (suc zero) h = refl
byte_of word (suc (suc zero)) h = refl
byte_of word (suc (suc (suc k))) h = omega (arith, h)

-- the same by the bytes of the word
pub field_step : (levels : List (List ℕ)) (word k g : ℕ) → IsTree levels → k < length levels
    → k < 3 → index_named (drop (k + 1) levels) (word / 2 ^ (8 * (k + 1))) ≡ Some g
    → index_named (drop k levels) (word / 2 ^ (8 * k))
    ≡ child_in (get_or levels k []) g (get_or (to_le_bytes w64 word) k 0)
field_step levels word k g t h few e =
    named_step levels word k g t h e
    ∙ ap (child_in (get_or levels k []) g) (sym (byte_of word k few))

-- a place that is named above stands on the level
pub inside_step : (levels : List (List ℕ)) (word k g : ℕ) → IsTree levels → k < length levels
    → index_named (drop (k + 1) levels) (word / 2 ^ (8 * (k + 1))) ≡ Some g
    → g < length (get_or levels k [])
inside_step levels word k g t h e =
    let next : k + 1 ≡ suc k = omega arith in
    omega (
      arith,
      (named_is (drop (k + 1) levels) (word / 2 ^ (8 * (k + 1))) g e).inside,
      ap (λ (j : ℕ). size_below (drop j levels)) next,
      (level levels k t h).above,
    )

-- Under the system alone -----------------------------------------------------------------------

-- the field of a child of the system is its place
lone : (w : List ℕ) (i : ℕ) → length w ≡ 1 → i < sum w → address_up (w ∷ []) i ≡ i
lone w i one h =
    let c = counted w i h in
    let first : group_of w i ≡ 0 = omega (arith, c.group) in
    let whole : sum (take 0 w) + index_in w i ≡ i = rw first at c.whole in
    omega (arith, whole)

-- a word names the child of that number
named_top : (w : List ℕ) (word : ℕ) → IsTree (w ∷ []) → word < sum w
    → index_named (w ∷ []) word ≡ Some word
named_top w word t h = named_at (w ∷ []) word word t h (lone w word t.0 h)

-- a word names none, where there is no such child
named_past : (w : List ℕ) (word : ℕ) → IsTree (w ∷ []) → sum w ≤ word
    → index_named (w ∷ []) word ≡ None
named_past w word t h = grind (arith, nat_tests, none_named, lone)

-- the highest level stands alone
highest : (levels : List (List ℕ)) (k : ℕ) → k + 1 ≡ length levels
    → drop k levels ≡ get_or levels k [] ∷ []
highest levels k e = grind (arith, nat_tests, drop-cons, drop_all)

-- nor is one on a level between
pub none_above : (levels : List (List ℕ)) (word low k : ℕ) → IsTree levels → low ≤ k
    → k ≤ length levels
    → index_named (drop k levels) (word / 2 ^ (8 * k)) ≡ None
    → index_named (drop low levels) (word / 2 ^ (8 * low)) ≡ None
none_above levels word zero k t l h e = grind (arith, nat_tests, div-one, none_up)
none_above [] word (suc low) k t l h e = absurd (omega (arith, l, h))
none_above (w ∷ ws) word (suc low) zero t l h e = absurd (omega (arith, l))
none_above (w ∷ ws) word (suc low) (suc k) t l h e =
    ap (index_named (drop low ws)) (sym (shifted (word / 256) word low refl))
    ∙ none_above ws (word / 256) low k t.3 (omega (arith, l)) (omega (arith, h))
    (ap (index_named (drop k ws)) (shifted (word / 256) word k refl) ∙ e)

pub named_highest : (levels : List (List ℕ)) (word k : ℕ) → IsTree levels → k + 1 ≡ length levels
    → word / 2 ^ (8 * k) < sum (get_or levels k [])
    → index_named (drop k levels) (word / 2 ^ (8 * k)) ≡ Some (word / 2 ^ (8 * k))
named_highest levels word k t e h = grind (arith, nat_tests, highest, named_top, IsTree-drop)

pub none_highest : (levels : List (List ℕ)) (word low k : ℕ) → IsTree levels → low ≤ k
    → k + 1 ≡ length levels → sum (get_or levels k []) ≤ word / 2 ^ (8 * k)
    → index_named (drop low levels) (word / 2 ^ (8 * low)) ≡ None
none_highest levels word low k t l e h =
    let cut : drop k levels ≡ get_or levels k [] ∷ [] = highest levels k e in
    none_above levels word low k t l (omega (arith, e))
    (ap (λ ls. index_named ls (word / 2 ^ (8 * k))) cut
    ∙ named_past (get_or levels k []) (word / 2 ^ (8 * k))
    (subst IsTree cut (IsTree-drop k levels t)) h)

-- The parent of a node, and its number among the children of that parent --------------------------

-- a node of the board that is not the system
abbrev has_parent : BoardValue → Node → Bool
has_parent b n = ltb n.level (height b) && ltb n.place (nodes b n.level)

record Below (b : BoardValue) (n : Node) : Type 0 where
  level : n.level < height b
  place : n.place < nodes b n.level

yes : (b : BoardValue) (n : Node) → Below b n → has_parent b n ≡ true
yes b n h = let l = h.level in let p = h.place in grind (arith, nat_tests)

below : (b : BoardValue) (n : Node) → has_parent b n ≡ true → Below b n
below b n h = record { level = grind (arith, nat_tests); place = grind (arith, nat_tests) }

-- From a node to a child ----------------------------------------------------------------------

-- m is the k-th child of n
record Step (b : BoardValue) (n m : Node) (k : ℕ) : Type 0 where
  level : m.level + 1 ≡ n.level
  below : Below b m
  stands : Stands (counts b m.level) m.place n.place k

step_at : (b : BoardValue) → IsBoard b → (n m : Node) (k level : ℕ) → n.level ≡ level
    → k < children_at b level n.place
    → record { level = level - 1; place = first_child b level n.place + k } ≡ m → Step b n m k
step_at b h n m k zero e i d = absurd (omega arith)
step_at b h n m k (suc l) e i d =
    let here = child_inside b h l n.place k i in
    let short : n.place < length (counts b l) = elim (cases_lt n.place (length (counts b l))) [
      | inl x ↦ x
      | inr x ↦ absurd (let none : get_or (counts b l) n.place 0 ≡ 0 =
          get_or_past (counts b l) n.place 0 x in omega arith)
    ] in
    rw (← d) (record {
      level = omega arith;
      below = record { level = omega (arith, here.0); place = rw sub-one here.1 };
      stands = rw sub-one (stands_at (counts b l) n.place k (first_child b (suc l) n.place + k)
          short i refl);
    })

step : (b : BoardValue) → IsBoard b → (n m : Node) (k : ℕ) → child b n k ≡ Some m → Step b n m k
step b h n m k e =
    let c = cond_some (ltb k (children b n)) _ m e in
    step_at b h n m k n.level refl (grind (arith, nat_tests)) c.1

parent_of_child : (b : BoardValue) → IsBoard b → (n m : Node) (k : ℕ) → child b n k ≡ Some m
    → parent b m ≡ Some n
parent_of_child b h n m k e = grind (arith, nat_tests, step, yes, below, level)

number_of_child : (b : BoardValue) → IsBoard b → (n m : Node) (k : ℕ) → child b n k ≡ Some m
    → child_number b m ≡ Some k
number_of_child b h n m k e = grind (arith, nat_tests, step, yes, below)

-- From a node to its parent -------------------------------------------------------------------

child_at_parent : (b : BoardValue) → IsBoard b → (l q p k level : ℕ) → suc l ≡ level
    → group_of (counts b l) q ≡ p → index_in (counts b l) q ≡ k → l < height b → q < nodes b l
    → child b (record { level = level; place = p }) k ≡ Some (record { level = l; place = q })
child_at_parent b h l q p k high e f g i j =
    grind (arith, nat_tests, level, counted, counts, sub-one)

child_of_parent : (b : BoardValue) → IsBoard b → (n m : Node) (k : ℕ) → parent b m ≡ Some n
    → child_number b m ≡ Some k → child b n k ≡ Some m
child_of_parent b h n m k e d =
    grind (arith, nat_tests, cond_some, below, level, counts, child_at_parent)

parent_node : (b : BoardValue) → IsBoard b → (n m : Node) → parent b m ≡ Some n → HasNode b n
parent_node b h n m e =
    grind (arith, nat_tests, cond_some, has_parent, below, level, counted, counts, add-one)

pub parent_laws : (b : BoardValue) → IsBoard b → ParentLaws b
unfolding up
parent_laws b h = record {
  of_child = parent_of_child b h;
  number = number_of_child b h;
  child = child_of_parent b h;
  numbered = λ n m e.
      let c = cond_some (has_parent b m) _ n e in
      (index_in (counts b m.level) m.place, rw c.0 refl);
  node = parent_node b h;
  some_parent = λ m i l. (
    record { level = m.level + 1; place = group_of (counts b m.level) m.place },
    rw (yes b m (record { level = l; place = i.place })) refl,
  );
  path = λ c l k m.
      let at = inside b.levels l c h.tree k (omega arith) in
      let node : Node = record { level = l; place = place_above b.levels l c } in
      rw (yes b node (record { level = m; place = at }), add-one, place_above-suc b.levels l c m)
      refl;
}
