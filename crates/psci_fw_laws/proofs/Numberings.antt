-- What a renumbering keeps: what is counted below a domain and over all cores, what is folded over
-- the children of a node; and that each request asks of the renumbered cores what some other asks.
use Rattle.std.proofs.Common.{drop, get_or, sum}
use Rattle.std.proofs.lemmas.Bool.{le-ltb}
use Rattle.std.proofs.lemmas.List.{get_or_past}
use Rattle.std.proofs.lemmas.Option.{none-some}
use Rattle.psci_abi.specs.declared.request.Request.{Request}
use Rattle.psci_board.specs.Board.{group_of, IsTree, parent, ParentLaws, place_above, size_below}
use Rattle.psci_board.specs.Board.{up}
use Rattle.psci_board.proofs.More.{sum-cons}
use Rattle.psci_fw_laws.specs.Renumbered.{AreSiblings, AreTwins, core_beside, is_in_cluster}
use Rattle.psci_fw_laws.specs.Renumbered.{swap_clusters, swap_cores}
use Rattle.psci_fw_laws.proofs.Folds.{adds-commutes, alike, ands-commutes, cases_within, Commutes}
use Rattle.psci_fw_laws.proofs.Folds.{fold, fold-filter, fold-other, fold-window, is_within}
use Rattle.psci_fw_laws.proofs.Folds.{is_within-false, is_within-true, least-fold, lessens-commutes}
use Rattle.psci_fw_laws.proofs.Folds.{list_all-fold, list_any-fold, ors-commutes, passing}
use Rattle.psci_fw_laws.proofs.Folds.{passing-commutes, sum_by-fold, swap-back, swap-first}
use Rattle.psci_fw_laws.proofs.Folds.{swap-other, swap-second, within}
use Rattle.psci_fw_laws.proofs.Words.{[], ◌+◌, ◌-◌, ◌<◌, ◌==◌, ◌∙◌, ◌∷◌, ◌≡◌, ◌≤◌, ◌⊎◌, ap, arith}
use Rattle.psci_fw_laws.proofs.Words.{AsksBy, below, BoardValue, Bool, cases_eq, cases_lt}
use Rattle.psci_fw_laws.proofs.Words.{ChildLaws, children_at, Core, core_by, core_of, cores, eq-eqb}
use Rattle.psci_fw_laws.proofs.Words.{false, first_child, HasNode, height, if◌then◌else◌, inl, inr}
use Rattle.psci_fw_laws.proofs.Words.{IsBoard, IsRenumbering, least, length, List, list_all}
use Rattle.psci_fw_laws.proofs.Words.{list_any, lt-ltb, ltb-true, map, nat_lt, nat_tests, ne_eqb}
use Rattle.psci_fw_laws.proofs.Words.{Node, node_by, node_of, nodes, None, Option, option_map}
use Rattle.psci_fw_laws.proofs.Words.{PathLaws, range_with_len, refl, same_Some, Some, suc, sum_by}
use Rattle.psci_fw_laws.proofs.Words.{swap, sym, true, WordLaws, zero, ℕ}
use Rattle.psci_board.proofs.Paths.{child_laws, path_laws}
use Rattle.psci_abi.specs.declared.request.Request.TheVariants as requests

-- What a renumbering keeps of a board.
pub record Renumbers (b : BoardValue) (s : ℕ → ℕ → ℕ) : Type 1 where
  -- it is its own inverse
  pub back : (level place : ℕ) → s level (s level place) ≡ place
  -- a node of the board stays one
  pub inside : (level place : ℕ)
      → nat_lt (s level place) (nodes b level) ≡ nat_lt place (nodes b level)
  -- the domains above a core are those above the other one, at their other places
  pub above : (level c : ℕ) → up b level (s 0 c) ≡ s level (up b level c)
  -- what is folded over all cores, and over the children of a node, is the same of the others
  pub all : {R : Type 0} (g : ℕ → R → R) (z : R) → Commutes g
      → fold (λ k r. g (s 0 k) r) z (range_with_len 0 (cores b))
      ≡ fold g z (range_with_len 0 (cores b))
  pub children : {R : Type 0} (g : ℕ → R → R) (z : R) (level place : ℕ) → Commutes g
      → fold (λ k r. g (s level k) r) z
      (range_with_len (first_child b (suc level) (s (suc level) place))
      (children_at b (suc level) (s (suc level) place)))
      ≡ fold g z
      (range_with_len (first_child b (suc level) place) (children_at b (suc level) place))

-- Tests -----------------------------------------------------------------------------------------

pub same_test : (a b c d : ℕ) → (a ≡ b → c ≡ d) → (c ≡ d → a ≡ b) → (a == b) ≡ (c == d)
same_test a b c d f g = grind (arith, f, g)

module _ {b : BoardValue} {s : ℕ → ℕ → ℕ} (is : Renumbers b s) where
  -- a number is the other number of a core where its own other number is the core's
  pub other_test : (k c : ℕ) → (k == s 0 c) ≡ (s 0 k == c)
  other_test k c = grind (arith, is.back 0 k, is.back 0 c)

  pub place_test : (level place c : ℕ)
      → (up b level c == s level place) ≡ (up b level (s 0 c) == place)
  place_test level place c = grind (arith, nat_tests)

  pub node_back : (n : Node) → node_by s (node_by s n) ≡ n
  node_back n = λ i. record { level = n.level; place = is.back n.level n.place i }

  -- Counts ----------------------------------------------------------------------------------------

  below-fold : {R : Type 0} (n : Node) (g : ℕ → R → R) (z : R) → Commutes g
      → fold (λ k r. g (s 0 k) r) z (below b (node_by s n)) ≡ fold g z (below b n)
  unfolding up
  below-fold n g z c =
      let p : ℕ → Bool = λ k. up b n.level k == n.place in
      let q : ℕ → Bool = λ k. up b n.level k == s n.level n.place in
      let same : q ≡ (λ k. p (s 0 k)) = λ i. λ k. place_test n.level n.place k i in
      fold-filter q (λ k r. g (s 0 k) r) z (range_with_len 0 (cores b))
      ∙ (ap (λ (t : ℕ → Bool). fold (passing t (λ k r. g (s 0 k) r)) z (range_with_len 0 (cores b)))
      same
      ∙ (is.all (passing p g) z (passing-commutes p g c)
      ∙ sym (fold-filter p g z (range_with_len 0 (cores b)))))

  pub sum-below : (n : Node) (f : ℕ → ℕ)
      → sum_by (λ k. f (s 0 k)) (below b (node_by s n)) ≡ sum_by f (below b n)
  sum-below n f = grind (arith, sum_by-fold, below-fold, adds-commutes)

  pub least-below : (n : Node) (f : ℕ → ℕ)
      → least (map (λ k. f (s 0 k)) (below b (node_by s n))) ≡ least (map f (below b n))
  least-below n f = search (arith, least-fold, below-fold, lessens-commutes)

  pub all-below : (n : Node) (f : ℕ → Bool)
      → list_all (λ k. f (s 0 k)) (below b (node_by s n)) ≡ list_all f (below b n)
  all-below n f = search (arith, list_all-fold, below-fold, ands-commutes)

  pub any-below : (n : Node) (f : ℕ → Bool)
      → list_any (λ k. f (s 0 k)) (below b (node_by s n)) ≡ list_any f (below b n)
  any-below n f = search (arith, list_any-fold, below-fold, ors-commutes)

  pub all-cores : (f : ℕ → Bool)
      → list_all (λ k. f (s 0 k)) (range_with_len 0 (cores b))
      ≡ list_all f (range_with_len 0 (cores b))
  all-cores f = search (arith, list_all-fold, ands-commutes)

  pub any-cores : (f : ℕ → Bool)
      → list_any (λ k. f (s 0 k)) (range_with_len 0 (cores b))
      ≡ list_any f (range_with_len 0 (cores b))
  any-cores f = search (arith, list_any-fold, ors-commutes)

-- What is folded is the same of renumbered cores --------------------------------------------------

node_moved : (b : BoardValue) (s : ℕ → ℕ → ℕ) (level k : ℕ) → IsRenumbering b s
    → k < nodes b level → s level k < nodes b level
node_moved b s level k is h = grind (arith, nat_tests, lt-ltb, ltb-true)

-- whether a place is that of a child of this place
abbrev is_child : BoardValue → ℕ → ℕ → ℕ → Bool
is_child b level p k = is_within (first_child b (suc level) p) (children_at b (suc level) p) k

module _ {b : BoardValue} (child : ChildLaws b) where
  -- a core's node is a child of its node of the next level, and of no other
  child_of_core : (level p c : ℕ) → c < cores b → level < height b
      → is_child b level p (up b level c) ≡ (up b (suc level) c == p)
  child_of_core level p c h i =
      grind (arith, cases_eq, is_within-true, eq-eqb, is_within-false, ne_eqb)

  -- children are nodes of the board
  pub child_inside : (level p k : ℕ) → level < height b → first_child b (suc level) p ≤ k
      → k < first_child b (suc level) p + children_at b (suc level) p → k < nodes b level
  child_inside level p k h low high =
      let far : k - first_child b (suc level) p < children_at b (suc level) p = omega arith in
      omega (arith, child.inside level p (k - first_child b (suc level) p) h far)

  children-fold : {R : Type 0} (g : ℕ → R → R) (z : R) (level p : ℕ) → level < height b
      → fold g z (range_with_len (first_child b (suc level) p) (children_at b (suc level) p))
      ≡ fold (within (first_child b (suc level) p) (children_at b (suc level) p) g) z
      (range_with_len 0 (nodes b level))
  children-fold g z level p h = grind (arith, fold-window, child_inside)

-- above the system there are no children
childless : (b : BoardValue) (level p : ℕ) → height b ≤ level → children_at b (suc level) p ≡ 0
childless b level p h = ap (λ (w : List ℕ). get_or w p 0) (get_or_past b.levels level [] h)

-- a child of the other place is the other place of a child
child_moved : (b : BoardValue) (s : ℕ → ℕ → ℕ) (level p k : ℕ) → IsRenumbering b s → PathLaws b
    → ChildLaws b → level < height b → k < nodes b level
    → is_child b level (s (suc level) p) k ≡ is_child b level p (s level k)
child_moved b s level p k is paths child h i =
    let n : Node = record { level = level; place = k } in
    let has : HasNode b n = record { level = omega arith; place = i } in
    let some = paths.some_core n has in
    let c : ℕ = some.0 in
    let moved : s 0 c < cores b = node_moved b s 0 c is some.1 in
    let at : up b level c ≡ k = some.2 in
    let other : up b level (s 0 c) ≡ s level k = is.above level c ∙ ap (s level) at in
    let parents : (up b (suc level) c == s (suc level) p) ≡ (up b (suc level) (s 0 c) == p) =
    same_test (up b (suc level) c) (s (suc level) p) (up b (suc level) (s 0 c)) p
    (λ e. is.above (suc level) c ∙ (ap (s (suc level)) e ∙ is.back (suc level) p))
    (λ e. sym (is.back (suc level) (up b (suc level) c))
    ∙ ap (s (suc level)) (sym (is.above (suc level) c) ∙ e)) in
    ap (is_child b level (s (suc level) p)) (sym at)
    ∙ (child_of_core child level (s (suc level) p) c some.1 h
    ∙ (parents
    ∙ (sym (child_of_core child level p (s 0 c) moved h)
    ∙ ap (is_child b level p) other)))

within-commutes : {R : Type 0} (g : ℕ → R → R) (a n : ℕ) → Commutes g → Commutes (within a n g)
within-commutes g a n c = passing-commutes (is_within a n) g c

children-by : {R : Type 0} (b : BoardValue) (s : ℕ → ℕ → ℕ) (g : ℕ → R → R) (z : R) (level p : ℕ)
    → IsRenumbering b s → PathLaws b → ChildLaws b → Commutes g → level < height b
    → fold (λ k r. g (s level k) r) z
    (range_with_len (first_child b (suc level) (s (suc level) p))
    (children_at b (suc level) (s (suc level) p)))
    ≡ fold g z (range_with_len (first_child b (suc level) p) (children_at b (suc level) p))
children-by b s g z level p is paths child c h =
    let a : ℕ = first_child b (suc level) p in
    let n : ℕ = children_at b (suc level) p in
    let q : ℕ = s (suc level) p in
    children-fold child (λ k r. g (s level k) r) z level q h
    ∙ (alike (within (first_child b (suc level) q) (children_at b (suc level) q)
    (λ k r. g (s level k) r)) (λ k r. within a n g (s level k) r) z 0 (nodes b level)
    (λ k r i j. ap (λ (t : Bool). if t then g (s level k) r else r)
    (child_moved b s level p k is paths child h (omega arith)))
    ∙ (fold-other (s level) (within a n g) z (nodes b level) (within-commutes g a n c)
    (is.back level) (λ k i. node_moved b s level k is i)
    ∙ sym (children-fold child g z level p h)))

pub renumbers : (b : BoardValue) (s : ℕ → ℕ → ℕ) → IsBoard b → IsRenumbering b s
    → Renumbers b s
renumbers b s board is = record {
  back = is.back;
  inside = is.inside;
  above = is.above;
  all = λ g z c. fold-other (s 0) g z (cores b) c (is.back 0) (λ k i. node_moved b s 0 k is i);
  children = λ g z level p c. elim (cases_lt level (height b)) [
    | inl h ↦ children-by b s g z level p is (path_laws b board) (child_laws b board) c h
    | inr h ↦ rw (childless b level (s (suc level) p) h, childless b level p h) refl
  ];
}

-- Requests ----------------------------------------------------------------------------------------

-- the other place of a node is one too
place_inside : (b : BoardValue) (s : ℕ → ℕ → ℕ) (level place : ℕ) → Renumbers b s
    → place < nodes b level → s level place < nodes b level
place_inside b s level place is h = grind (arith, ltb-true, lt-ltb)

node_inside : (b : BoardValue) (s : ℕ → ℕ → ℕ) (n : Node) → Renumbers b s → HasNode b n
    → HasNode b (node_by s n)
node_inside b s n is h = grind (arith, nat_tests, place_inside)

-- some word names the other place of a node
abbrev Names : BoardValue → (ℕ → ℕ → ℕ) → ℕ → ℕ → Type 0
Names b s target level =
    (word : ℕ) × (node_of b word level ≡ option_map (node_by s) (node_of b target level))

node_named : (b : BoardValue) (s : ℕ → ℕ → ℕ) (target level : ℕ) (o : Option Node) → Renumbers b s
    → WordLaws b → node_of b target level ≡ o → Names b s target level
node_named b s target level None is laws e = (target, e ∙ sym (ap (option_map (node_by s)) e))
node_named b s target level (Some n) is laws e =
    let found = laws.some_word (node_by s n) (node_inside b s n is (laws.node target level n e)) in
    let at : n.level ≡ level = laws.level target level n e in (
      found.0,
      ap (node_of b found.0) (sym at)
          ∙ (found.2 ∙ sym (ap (option_map (node_by s)) e)),
    )

-- some word names the core of the other number
core_from_node : (o : Option Core) (place : ℕ)
    → option_map (λ (c : Core). let n : Node = record { level = 0; place = c.number } in n) o
    ≡ Some (record { level = 0; place = place })
    → o ≡ Some (record { number = place })
core_from_node o place e = grind (arith, nat_tests, same_Some, none-some)

core_named : (b : BoardValue) (s : ℕ → ℕ → ℕ) (target : ℕ) (o : Option Core) → Renumbers b s
    → WordLaws b → core_of b target ≡ o
    → (word : ℕ) × (core_of b word ≡ option_map (core_by s) (core_of b target))
core_named b s target None is laws e = (target, e ∙ sym (ap (option_map (core_by s)) e))
core_named b s target (Some c) is laws e =
    let n : Node = record { level = 0; place = s 0 c.number } in
    let inside : HasNode b n = record {
      level = omega arith;
      place = place_inside b s 0 c.number is (laws.core target c e);
    } in
    let found = laws.some_word n inside in (
      found.0,
      core_from_node (core_of b found.0) (s 0 c.number)
          (sym (laws.core_node found.0) ∙ found.2)
          ∙ sym (ap (option_map (core_by s)) e),
    )

pub told : (b : BoardValue) (s : ℕ → ℕ → ℕ) (r : Request) → Renumbers b s → WordLaws b
    → (q : Request) × AsksBy b s r q
told b s (requests.CpuOn target entry_point context) is laws =
    let w = core_named b s target (core_of b target) is laws refl in
    (requests.CpuOn w.0 entry_point context, (w.0, w.1, refl))
told b s (requests.AffinityInfo level target) is laws =
    let w = node_named b s target level (node_of b target level) is laws refl in
    (requests.AffinityInfo level w.0, (w.0, w.1, refl))
told b s (requests.NodeHwState level target) is laws =
    let w = node_named b s target level (node_of b target level) is laws refl in
    (requests.NodeHwState level w.0, (w.0, w.1, refl))
told b s r is laws = (r, refl)

-- Twins -------------------------------------------------------------------------------------------
-- To swap two cores of one cluster, or two clusters with as many cores, is a renumbering of the
-- board.

-- Siblings ----------------------------------------------------------------------------------------

-- a function that says the same of both says the same of each core and its other number
pub alike_both : {A : Type 0} (f : ℕ → A) (x y c : ℕ) → f x ≡ f y → f (swap x y c) ≡ f c
alike_both f x y c e = grind arith

-- cores of one cluster are below the same domains from there up
meeting : (b : BoardValue) (x y level : ℕ) → PathLaws b → up b 1 x ≡ up b 1 y
    → up b (suc level) x ≡ up b (suc level) y
meeting b x y zero laws e = e
meeting b x y (suc level) laws e = laws.joined x y (suc level) (meeting b x y level laws e)

pub siblings : (b : BoardValue) (x y : ℕ) → PathLaws b → AreSiblings b x y
    → IsRenumbering b (swap_cores x y)
siblings b x y paths two = grind (arith, nat_tests, alike_both, nat_lt, lt-ltb, meeting)

-- Twins -------------------------------------------------------------------------------------------

-- What the proofs stand on.
record Laws (b : BoardValue) : Type 0 where
  tree : IsTree b.levels
  low : 0 < height b
  paths : PathLaws b
  child : ChildLaws b
  parents : ParentLaws b

-- Cores of a cluster ----------------------------------------------------------------------------

-- a core has its number among those of a cluster
record In (b : BoardValue) (p c : ℕ) : Type 0 where
  low : first_child b 1 p ≤ c
  high : c < first_child b 1 p + children_at b 1 p

cases_in : (b : BoardValue) (p c : ℕ) → In b p c ⊎ (In b p c → ⊥)
cases_in b p c = grind (arith, nat_tests, cases_within)

is_in : (b : BoardValue) (p c : ℕ) → In b p c → is_in_cluster b p c ≡ true
is_in b p c h = grind arith

is_out : (b : BoardValue) (p c : ℕ) → (In b p c → ⊥) → is_in_cluster b p c ≡ false
is_out b p c out = grind (arith, is_within-false (first_child b 1 p) (children_at b 1 p) c)

moved_first : (b : BoardValue) (p q c : ℕ) → In b p c
    → swap_clusters b p q 0 c ≡ core_beside b p q c
moved_first b p q c h = rw (is_in b p c h) refl

moved_second : (b : BoardValue) (p q c : ℕ) → (In b p c → ⊥) → In b q c
    → swap_clusters b p q 0 c ≡ core_beside b q p c
moved_second b p q c out h = rw (is_out b p c out, is_in b q c h) refl

moved_none : (b : BoardValue) (p q c : ℕ) → (In b p c → ⊥) → (In b q c → ⊥)
    → swap_clusters b p q 0 c ≡ c
moved_none b p q c out far = rw (is_out b p c out, is_out b q c far) refl

-- What a swap does to each core: it moves to the other cluster, or stays.
data Moves (b : BoardValue) (p q c d : ℕ) : Type 0 where
  First : In b p c → In b q d → d ≡ core_beside b p q c → Moves b p q c d
  Second : (In b p c → ⊥) → In b q c → In b p d → d ≡ core_beside b q p c → Moves b p q c d
  Stays : (In b p c → ⊥) → (In b q c → ⊥) → d ≡ c → Moves b p q c d

moves : (b : BoardValue) (p q c : ℕ) → children_at b 1 p ≡ children_at b 1 q
    → Moves b p q c (swap_clusters b p q 0 c)
moves b p q c same = grind (arith, nat_tests, cases_in, moved_first, moved_second, moved_none)

-- the parent of the cluster of this place
abbrev parent_at : BoardValue → ℕ → Option Node
parent_at b place = parent b (record { level = 1; place = place })

-- past the last core there is no cluster
group_past : (w : List ℕ) (i : ℕ) → sum w ≤ i → length w ≤ group_of w i
group_past [] i h = omega arith
group_past (n ∷ ns) i h = grind (arith, nat_tests, le-ltb, sum-cons, group_past ns (i - n))

cluster_past : (levels : List (List ℕ)) (c : ℕ) → IsTree levels → 0 < length levels
    → size_below levels ≤ c → size_below (drop 1 levels) ≤ place_above levels 1 c
cluster_past levels c tree low h = grind (arith, nat_tests, group_past)

module _ {b : BoardValue} (laws : Laws b) where
  inside : {p c : ℕ} → In b p c → c < cores b
  inside {p} {c} h = child_inside laws.child 0 p c laws.low h.low h.high

  up_in : {p c : ℕ} → In b p c → up b 1 c ≡ p
  up_in {p} {c} h =
      let here : up b 0 c ≡ c = laws.paths.core c in
      laws.child.parent c 0 p (inside h) laws.low (omega arith) (omega arith)

  up_past : {c : ℕ} → cores b ≤ c → nodes b 1 ≤ up b 1 c
  unfolding up
  up_past {c} h = cluster_past b.levels c laws.tree laws.low h

  -- The other numbers -----------------------------------------------------------------------------

  -- twice is not at all
  back_from : {p q c d : ℕ} → Moves b p q c d → swap_clusters b p q 0 d ≡ c
  back_from {p} {q} {c} {d} (First h i e) = elim (cases_in b p d) [
    | inl j ↦
        let same : p ≡ q = sym (up_in j) ∙ up_in i in
        let first : first_child b 1 p ≡ first_child b 1 q = ap (first_child b 1) same in
        let low : first_child b 1 p ≤ c = h.low in
        moved_first b p q d j ∙ omega arith
    | inr out ↦
        let low : first_child b 1 p ≤ c = h.low in
        moved_second b p q d out i ∙ omega arith
  ]
  back_from {p} {q} {c} {d} (Second out h i e) =
      let low : first_child b 1 q ≤ c = h.low in
      moved_first b p q d i ∙ omega arith
  back_from {p} {q} {c} (Stays out far e) =
      ap (swap_clusters b p q 0) e ∙ moved_none b p q c out far

  -- a core of the board stays one
  inside_from : {p q c d : ℕ} → Moves b p q c d → nat_lt d (cores b) ≡ nat_lt c (cores b)
  inside_from {c = c} {d} (First h i e) =
      lt-ltb d (cores b) (inside i) ∙ sym (lt-ltb c (cores b) (inside h))
  inside_from {c = c} {d} (Second out h i e) =
      lt-ltb d (cores b) (inside i) ∙ sym (lt-ltb c (cores b) (inside h))
  inside_from {c = c} {d} (Stays out far e) = ap (λ (k : ℕ). nat_lt k (cores b)) e

  -- the clusters have each other's place
  clusters_from : {p q c d : ℕ} → AreTwins b p q → Moves b p q c d → up b 1 d ≡ swap p q (up b 1 c)
  clusters_from {p} {q} {c} two moved =
      grind (arith, nat_tests, swap-first, swap-other, swap-second, up_in, cases_lt, up_past)

  -- cores whose clusters have one parent are below one domain of level 2
  parents_meet : {x y : ℕ} → x < cores b → y < cores b
      → parent b (record { level = 1; place = up b 1 x })
      ≡ parent b (record { level = 1; place = up b 1 y }) → up b 2 x ≡ up b 2 y
  parents_meet {x} {y} h i e = grind (arith, nat_tests, cases_lt, same_Some)

  above_from : {p q c d : ℕ} (level : ℕ) → AreTwins b p q → Moves b p q c d
      → up b (suc (suc level)) d ≡ up b (suc (suc level)) c
  above_from {c = c} {d} zero two (First h i e) =
      parents_meet (inside i) (inside h) (ap (parent_at b) (up_in i)
      ∙ (sym two.parent ∙ ap (parent_at b) (sym (up_in h))))
  above_from {c = c} {d} zero two (Second out h i e) =
      parents_meet (inside i) (inside h) (ap (parent_at b) (up_in i)
      ∙ (two.parent ∙ ap (parent_at b) (sym (up_in h))))
  above_from {c = c} {d} zero two (Stays out far e) = ap (up b 2) e
  above_from {c = c} {d} (suc level) two m =
      laws.paths.joined d c (suc (suc level)) (above_from level two m)

  above_by : (p q level c : ℕ) → AreTwins b p q
      → up b level (swap_clusters b p q 0 c) ≡ swap_clusters b p q level (up b level c)
  above_by p q zero c two =
      laws.paths.core (swap_clusters b p q 0 c)
      ∙ ap (swap_clusters b p q 0) (sym (laws.paths.core c))
  above_by p q (suc zero) c two = clusters_from two (moves b p q c two.cores)
  above_by p q (suc (suc level)) c two = above_from level two (moves b p q c two.cores)

pub twins : (b : BoardValue) (p q : ℕ) → IsBoard b → PathLaws b → ChildLaws b → ParentLaws b
    → AreTwins b p q → IsRenumbering b (swap_clusters b p q)
twins b p q board paths child parents two =
    grind (arith, inside, above_by, lt-ltb, alike_both, moves, inside_from, swap-back, back_from)
