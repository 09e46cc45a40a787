-- The nodes above a core.
use Rattle.std.proofs.Math.Seq.{get_or-append_seam}
use Rattle.std.proofs.lemmas.Bool.{cases_eq, ne_eqb}
use Rattle.std.proofs.lemmas.List.{length-take-le}
use Rattle.std.proofs.lemmas.List.FromFn.{fill_by_all}
use Rattle.psci_board.specs.Board.{below_in, ChildLaws, cores_below, HasNodeIn, path, PathLaws}
use Rattle.psci_board.specs.Board.{SizeLaws, span, SpanLaws, up}
use Rattle.psci_board.proofs.More.{counted, few_at, fits, group_inside, group_of-ordered}
use Rattle.psci_board.proofs.More.{in_group, IsTree-drop, level, stands_at, sum-cons, width}
use Rattle.psci_board.proofs.Ranges.{among, cut_range, keep_middle, place_by_place, same_kept}
use Rattle.psci_board.proofs.Terms.{◌++◌, ◌+◌, ◌-◌, ◌<◌, ◌∙◌, ◌∷◌, ◌≡◌, ◌≤◌, [], ap, arith}
use Rattle.psci_board.proofs.Terms.{BoardValue, cases_lt, child, children, children_at}
use Rattle.psci_board.proofs.Terms.{common_steps, cond_some, cores, drop, drop-length, eq-eqb}
use Rattle.psci_board.proofs.Terms.{eqb, first_child, first_core, get_or, get_or_append_left}
use Rattle.psci_board.proofs.Terms.{get_or_from_slice_get, get_or_past, group_of, HasNode}
use Rattle.psci_board.proofs.Terms.{height, inl, inr, IsBoard, IsTree, length, length_push, List}
use Rattle.psci_board.proofs.Terms.{ltb, map, MOST_CORES, nat_tests, Node, nodes, nodes_up}
use Rattle.psci_board.proofs.Terms.{place_above, range_with_len, refl, size_below, slice_get}
use Rattle.psci_board.proofs.Terms.{Some, sub-one, suc, sum, sum_by_more, sym, take}
use Rattle.psci_board.proofs.Terms.{take-append-drop, take_all, zero, ℕ}

-- one level up
pub place_above-suc : (ws : List (List ℕ)) (l i : ℕ) → l < length ws
    → place_above ws (suc l) i ≡ group_of (get_or ws l []) (place_above ws l i)
place_above-suc [] l i h = absurd (omega arith)
place_above-suc (w ∷ ws) zero i h = refl
place_above-suc (w ∷ ws) (suc l) i h = place_above-suc ws l (group_of w i) (omega arith)

-- above the system the place stays
place_above-past : (ws : List (List ℕ)) (l i : ℕ) → length ws ≤ l
    → place_above ws (suc l) i ≡ place_above ws l i
place_above-past [] zero i h = refl
place_above-past [] (suc l) i h = refl
place_above-past (w ∷ ws) zero i h = absurd (omega arith)
place_above-past (w ∷ ws) (suc l) i h = place_above-past ws l (group_of w i) (omega arith)

joined : (ws : List (List ℕ)) (x y l : ℕ) → place_above ws l x ≡ place_above ws l y
    → place_above ws (suc l) x ≡ place_above ws (suc l) y
joined ws x y l e = grind (arith, nat_tests, place_above-suc, place_above-past)

pub ordered : (ws : List (List ℕ)) (x y l : ℕ) → x ≤ y → place_above ws l x ≤ place_above ws l y
ordered ws x y zero h = h
ordered [] x y (suc l) h = h
ordered (w ∷ ws) x y (suc l) h = grind (arith, nat_tests, group_of-ordered, ordered ws)

pub inside : (ws : List (List ℕ)) (l i : ℕ) → IsTree ws → i < size_below ws → l ≤ length ws
    → place_above ws l i < size_below (drop l ws)
inside ws zero i t h k = h
inside [] (suc l) i t h k = absurd (omega arith)
inside (w ∷ ws) (suc l) i t h k = grind (arith, nat_tests, fits, inside ws l)

pub some_core : (ws : List (List ℕ)) (l p : ℕ) → IsTree ws → l ≤ length ws
    → p < size_below (drop l ws)
    → (c : ℕ) × (c < size_below ws) × (place_above ws l c ≡ p)
some_core ws zero p t k h = (p, h, refl)
some_core [] (suc l) p t k h = absurd (omega arith)
some_core (w ∷ ws) (suc l) p t k h =
    let g = some_core ws l p t.3 (omega arith) h in
    let first = sum (take g.0 w) in
    let within : g.0 < length w = omega (arith, t.0, g.1) in
    let s = stands_at w g.0 0 first within (width w g.0 t.2 within).some (omega arith) in
    (first, s.inside, rw s.group g.2)

-- Paths as lists ----------------------------------------------------------------------------------

levels : (k : ℕ) (ws : List (List ℕ)) (i : ℕ) → length (nodes_up k ws i) ≡ length ws + 1
levels k [] i = refl
levels k (w ∷ ws) i = omega (arith, levels (k + 1) ws (group_of w i))

abbrev on : List (List ℕ) → ℕ → ℕ → Node
on ws i l = record { level = l; place = place_above ws l i }

node_at : (k : ℕ) (ws : List (List ℕ)) (i l m : ℕ) → l ≤ length ws → m ≡ k + l
    → slice_get (nodes_up k ws i) l ≡ Some (record { level = m; place = place_above ws l i })
node_at k [] i zero m h e = let same : m ≡ k = omega arith in rw same refl
node_at k [] i (suc l) m h e = absurd (omega arith)
node_at k (w ∷ ws) i zero m h e = let same : m ≡ k = omega arith in rw same refl
node_at k (w ∷ ws) i (suc l) m h e =
    node_at (k + 1) ws (group_of w i) l m (omega arith) (omega arith)

listed : (b : BoardValue) (c : ℕ)
    → path b c ≡ map (λ l. on b.levels c l) (range_with_len 0 (height b + 1))
listed b c =
    let none : Node = record { level = 0; place = 0 } in
    fill_by_all (on b.levels c) (path b c) (height b + 1) none (levels 0 b.levels c) (λ l h.
    let node = node_at 0 b.levels c l l (omega arith) (omega arith) in
    get_or_from_slice_get (path b c) l (on b.levels c l) none node)

-- The laws ----------------------------------------------------------------------------------------

some : (ws : List (List ℕ)) → IsTree ws → 0 < size_below ws
some [] t = omega arith
some (w ∷ ws) t =
    let one : 0 < length w = omega (arith, t.0, some ws t.3) in
    (stands_at w 0 0 0 one (width w 0 t.2 one).some refl).inside

most : (ws : List (List ℕ)) → IsTree ws → size_below ws ≤ MOST_CORES
most [] t = omega arith
most (w ∷ ws) t = t.1

pub size_laws : (b : BoardValue) → IsBoard b → SizeLaws b
size_laws b h = record {
  some = λ l. some (drop l b.levels) (IsTree-drop l b.levels h.tree);
  most = λ l. most (drop l b.levels) (IsTree-drop l b.levels h.tree);
  system = rw (drop-length b.levels) refl;
}

pub path_laws : (b : BoardValue) → IsBoard b → PathLaws b
unfolding up
path_laws b h = grind (
  arith,
  nat_tests,
  levels,
  node_at,
  listed,
  inside,
  drop-length,
  joined,
  ordered,
  some_core,
)

-- The children of a node, and the cores below them ------------------------------------------------

-- the numbers of children of the level above this one
abbrev pub counts : BoardValue → ℕ → List ℕ
counts b l = get_or b.levels l []

-- q is the place of a child of the node at p
record Child (w : List ℕ) (p q : ℕ) : Type 0 where
  first : sum (take p w) ≤ q
  last : q < sum (take p w) + get_or w p 0

child_of : (w : List ℕ) (q p : ℕ) → q < sum w → p ≡ group_of w q → Child w p q
child_of w q p h e = grind (arith, nat_tests, counted)

of_parent : (b : BoardValue) → IsBoard b → (c l : ℕ) → c < cores b → l < height b
    → Child (counts b l) (place_above b.levels (suc l) c) (place_above b.levels l c)
of_parent b h c l k m = grind (arith, nat_tests, inside, level, child_of, place_above-suc)

parent : (b : BoardValue) (c l p : ℕ) → l < height b
    → sum (take p (counts b l)) ≤ place_above b.levels l c
    → place_above b.levels l c < sum (take p (counts b l)) + get_or (counts b l) p 0
    → place_above b.levels (suc l) c ≡ p
parent b c l p m i j = grind (arith, nat_tests, place_above-suc, in_group, counts)

-- below the node of the level above is below one of its children
child_test : (b : BoardValue) → IsBoard b → (c l p : ℕ) → c < cores b → l < height b
    → eqb (place_above b.levels (suc l) c) p
    ≡ among (sum (take p (counts b l))) (get_or (counts b l) p 0) (place_above b.levels l c)
child_test b h c l p k m = grind (arith, nat_tests, cases_eq, of_parent, among, counts, eqb, parent)

few : (b : BoardValue) → IsBoard b → (l p : ℕ) → children_at b l p ≤ 16
few b h zero p = omega arith
few b h (suc l) p = elim (cases_lt l (height b)) [
  | inl m ↦ few_at (counts b l) p (level b.levels l h.tree m).width
  | inr m ↦ rw (get_or_past b.levels l [] m) (omega arith)
]

-- Children by their nodes -------------------------------------------------------------------------

pub child_inside : (b : BoardValue) → IsBoard b → (l p k : ℕ) → k < children_at b (suc l) p
    → (l < height b) × (first_child b (suc l) p + k < nodes b l)
child_inside b h l p k i = elim (cases_lt l (height b)) [
  | inl m ↦ (m, rw (level b.levels l h.tree m).size (group_inside (counts b l) p k i))
  | inr m ↦
      let none : get_or (counts b l) p 0 ≡ 0 = rw (get_or_past b.levels l [] m) refl in
      absurd (omega arith)
]

record ChildOf (b : BoardValue) (n m : Node) : Type 0 where
  node : HasNode b m
  level : m.level + 1 ≡ n.level

child_at : (b : BoardValue) → IsBoard b → (n m : Node) (k level : ℕ) → n.level ≡ level
    → k < children_at b level n.place
    → record { level = level - 1; place = first_child b level n.place + k } ≡ m → ChildOf b n m
child_at b h n m k zero e i d = absurd (omega arith)
child_at b h n m k (suc l) e i d = grind (arith, nat_tests, child_inside, level, sub-one)

child_of_node : (b : BoardValue) → IsBoard b → (n m : Node) (k : ℕ) → child b n k ≡ Some m
    → ChildOf b n m
child_of_node b h n m k e =
    let c = cond_some (ltb k (children b n)) _ m e in
    child_at b h n m k n.level refl (grind (arith, nat_tests)) c.1

pub child_laws : (b : BoardValue) → IsBoard b → ChildLaws b
unfolding up
child_laws b h = record {
  first = λ c l k m. (of_parent b h c l k m).first;
  last = λ c l k m. (of_parent b h c l k m).last;
  parent = λ c l p k m i j. parent b c l p m i j;
  below = λ l p m.
      same_kept _ _ (cores b) 0 (λ c i k. child_test b h c l p (omega arith) m)
      ∙ place_by_place (place_above b.levels l) (λ i j k. ordered b.levels i j l k)
      (sum (take p (counts b l))) (get_or (counts b l) p 0) (cores b);
  inside = λ l p k m i. (child_inside b h l p k i).1;
  child_node = λ n m k e. (child_of_node b h n m k e).node;
  child_level = λ n m k e. (child_of_node b h n m k e).level;
  some_child = λ l p m i.
      let here = level b.levels l h.tree m in
      (width (counts b l) p here.width (omega (arith, here.above))).some;
  few = few b h;
}

-- The number of the first core below a node, level by level ---------------------------------------

-- One level -----------------------------------------------------------------------------------

pub sum_take_grows : (w : List ℕ) (j k : ℕ) → j ≤ k → sum (take j w) ≤ sum (take k w)
sum_take_grows w zero k h = omega arith
sum_take_grows [] (suc j) zero h = omega arith
sum_take_grows [] (suc j) (suc k) h = omega arith
sum_take_grows (n ∷ ns) (suc j) zero h = absurd (omega arith)
sum_take_grows (n ∷ ns) (suc j) (suc k) h = omega (arith, sum-cons, sum_take_grows ns j k)

pub sum_take_more : (w : List ℕ) (k : ℕ) → sum (take (k + 1) w) ≡ sum (take k w) + get_or w k 0
sum_take_more w k = grind (arith, nat_tests, sum_by_more, take_all, get_or_past)

-- what stands from the first child on is in the group or in a later one
group_from : (w : List ℕ) (i k : ℕ) → i < sum w → sum (take k w) ≤ i → k ≤ group_of w i
group_from w i k h l = grind (arith, common_steps, cases_lt, counted, sum_by_more, sum_take_grows)

group_back : (w : List ℕ) (i k : ℕ) → i < sum w → k ≤ group_of w i → sum (take k w) ≤ i
group_back w i k h l = grind (arith, nat_tests, counted, sum_take_grows)

-- All levels ----------------------------------------------------------------------------------

-- from the lowest level
first_up : (w : List ℕ) (ws : List (List ℕ)) (l p : ℕ)
    → first_core (w ∷ ws) (suc l) p ≡ sum (take (first_core ws l p) w)
first_up w ws zero p = refl
first_up w ws (suc l) p = first_up w ws l (sum (take p (get_or ws l [])))

pub above_from : (levels : List (List ℕ)) (l c p : ℕ) → IsTree levels → l ≤ length levels
    → c < size_below levels → first_core levels l p ≤ c → p ≤ place_above levels l c
above_from levels zero c p t h i f = f
above_from [] (suc l) c p t h i f = absurd (omega arith)
above_from (w ∷ ws) (suc l) c p t h i f =
    grind (arith, nat_tests, fits, group_from, first_up, above_from ws l)

pub above_back : (levels : List (List ℕ)) (l c p : ℕ) → IsTree levels → l ≤ length levels
    → c < size_below levels → p ≤ place_above levels l c → first_core levels l p ≤ c
above_back levels zero c p t h i f = f
above_back [] (suc l) c p t h i f = absurd (omega arith)
above_back (w ∷ ws) (suc l) c p t h i f =
    grind (arith, nat_tests, group_back, fits, first_up, above_back ws l)

pub first_grows : (levels : List (List ℕ)) (l p q : ℕ) → p ≤ q
    → first_core levels l p ≤ first_core levels l q
first_grows levels zero p q h = h
first_grows levels (suc l) p q h =
    first_grows levels l _ _ (sum_take_grows (get_or levels l []) p q h)

-- the first core past a level is the first past the board
pub first_end : (levels : List (List ℕ)) (l : ℕ) → IsTree levels → l ≤ length levels
    → first_core levels l (size_below (drop l levels)) ≡ size_below levels
first_end levels zero t h = refl
first_end [] (suc l) t h = absurd (omega arith)
first_end (w ∷ ws) (suc l) t h = grind (arith, nat_tests, first_up, take_all, first_end ws l)

pub first_within : (levels : List (List ℕ)) (l p : ℕ) → IsTree levels → l ≤ length levels
    → p ≤ size_below (drop l levels) → first_core levels l p ≤ size_below levels
first_within levels l p t h i =
    omega (arith, first_grows levels l p (size_below (drop l levels)) i, first_end levels l t h)

pub first_zero : (levels : List (List ℕ)) (l : ℕ) → first_core levels l 0 ≡ 0
first_zero levels zero = refl
first_zero levels (suc l) = first_zero levels l

-- The walk down -------------------------------------------------------------------------------

-- levels above do not count
first_lower : (ws vs : List (List ℕ)) (l p : ℕ) → l ≤ length ws
    → first_core (ws ++ vs) l p ≡ first_core ws l p
first_lower ws vs zero p h = refl
first_lower ws vs (suc l) p h = grind (arith, nat_tests, get_or_append_left, first_lower ws vs l)

first_down : (ws : List (List ℕ)) (w : List ℕ) (p : ℕ)
    → first_core (ws ++ w ∷ []) (length (ws ++ w ∷ [])) p
    ≡ first_core ws (length ws) (sum (take p w))
first_down ws w p = grind (arith, nat_tests, length_push, get_or-append_seam, first_lower)

-- one step of the walk
pub first_step : (levels lower : List (List ℕ)) (w : List ℕ) (place child first : ℕ)
    → levels ≡ lower ++ w ∷ [] → child ≡ sum (take place w)
    → first ≡ first_core lower (length lower) child
    → first ≡ first_core levels (length levels) place
first_step levels lower w place child first e f g = grind (arith, nat_tests, first_down)

pub first_cut : (ws : List (List ℕ)) (l p : ℕ) → l ≤ length ws
    → first_core (take l ws) (length (take l ws)) p ≡ first_core ws l p
first_cut ws l p h =
    let long : length (take l ws) ≡ l = length-take-le l ws h in
    ap (λ n. first_core (take l ws) n p) long
    ∙ sym (first_lower (take l ws) (drop l ws) l p (omega arith))
    ∙ ap (λ xs. first_core xs l p) (take-append-drop l ws)

-- The cores below a node stand side by side: they are the cores of its span -----------------------

-- Below a node --------------------------------------------------------------------------------

-- a core is below a node exactly where it stands in the node's span
record Inside (levels : List (List ℕ)) (n : Node) : Type 0 where
  grows : first_core levels n.level n.place < first_core levels n.level (n.place + 1)
  ends : first_core levels n.level (n.place + 1) ≤ size_below levels

inside_of : (levels : List (List ℕ)) (n : Node) → IsTree levels → HasNodeIn levels n
    → Inside levels n
inside_of levels n t h =
    let some = some_core levels n.level n.place t h.level h.place in
    let low = above_back levels n.level some.0 n.place t h.level some.1 (omega (arith, some.2)) in
    let late : first_core levels n.level (n.place + 1) ≤ some.0 → ⊥ =
    λ q. omega (arith, some.2, above_from levels n.level some.0 (n.place + 1) t h.level some.1 q) in
    let high : some.0 < first_core levels n.level (n.place + 1) =
    elim (cases_lt some.0 (first_core levels n.level (n.place + 1))) [
      | inl x ↦ x
      | inr x ↦ absurd (late x)
    ] in
    record {
      grows = omega arith;
      ends = first_within levels n.level (n.place + 1) t h.level (omega (arith, h.place));
    }

below_is : (levels : List (List ℕ)) (n : Node) → IsTree levels → HasNodeIn levels n
    → below_in levels n ≡ range_with_len (span levels n).first (span levels n).count
below_is levels n t h = grind (
  arith,
  nat_tests,
  inside_of,
  keep_middle,
  ne_eqb,
  above_back,
  eq-eqb,
  above_from,
  cases_lt,
)

pub span_laws : (levels : List (List ℕ)) → IsTree levels → SpanLaws levels
span_laws levels t = record {
  cores = λ n h. below_is levels n t h;
  some = λ n h. let i = inside_of levels n t h in omega (arith, i.grows);
  inside = λ n h. let i = inside_of levels n t h in omega (arith, i.grows, i.ends);
  slice = λ n h.
      let i = inside_of levels n t h in
      below_is levels n t h ∙ cut_range _ _ (size_below levels) (omega (arith, i.grows, i.ends));
  core = λ c. let one : (c + 1) - c ≡ 1 = omega arith in rw one refl;
  system =
      let one : size_below (drop (length levels) levels) ≡ 1 = rw (drop-length levels) refl in
      let end = rw one at (first_end levels (length levels) t (omega arith)) in
      let same : 0 + 1 ≡ 1 = omega arith in
      let all : size_below levels - 0 ≡ size_below levels = omega arith in
      rw (first_zero levels (length levels), same, end, all) refl;
  next = λ l p. omega (arith, first_grows levels l p (p + 1) (omega arith));
  first_child = λ l p. refl;
  last_child = λ l p.
      let w = get_or levels l [] in
      let grows = first_grows levels l _ _ (sum_take_grows w p (p + 1) (omega arith)) in
      let same : first_core levels l (sum (take (p + 1) w))
      ≡ first_core levels l (sum (take p w) + get_or w p 0) =
      ap (first_core levels l) (sum_take_more w p) in
      omega (arith, grows, same);
}

-- The contract of the walk --------------------------------------------------------------------

-- so many nodes has the level of a node
pub record NodeCount (b : BoardValue) (n : Node) (count : ℕ) : Type 0 where
  pub on_board : n.level ≤ height b → count ≡ nodes b n.level
  pub above : height b < n.level → count ≡ 0

pub on_board : (b : BoardValue) (n : Node) (count : ℕ) → NodeCount b n count → n.place < count
    → HasNode b n
on_board b n count c h = grind (arith, nat_tests, cases_lt)

pub span_some : (b : BoardValue) (n : Node) (front : List (List ℕ)) (first end : ℕ) → HasNode b n
    → front ≡ take n.level b.levels → first ≡ first_core front (length front) n.place
    → end ≡ first_core front (length front) (n.place + 1)
    → Some (record { first = first; count = end - first }) ≡ cores_below b n
span_some b n front first end h e f g = grind (arith, nat_tests, first_cut)

pub first_ordered : (front : List (List ℕ)) (p first end : ℕ)
    → first ≡ first_core front (length front) p → end ≡ first_core front (length front) (p + 1)
    → first ≤ end
first_ordered front p first end f g = grind (arith, nat_tests, first_grows)

-- the two ends of a span, and the span between them
pub ruleset walk = (first_ordered, span_some, on_board)
