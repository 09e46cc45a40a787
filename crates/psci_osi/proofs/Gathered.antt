-- Shallow domains are gathered child by child, and level by level.
use Rattle.std.specs.List.{count_by, list_all, range_with_len}
use Rattle.std.specs.Prelude.{flat_map, if◌then◌else◌, nat_le, not, Option, slice_index}
use Rattle.std.proofs.Common.{◌++◌, ◌+◌, ◌-◌, ◌<◌, ◌==◌, ◌∙◌, ◌∷◌, ◌≡◌, ◌≤◌, [], ap, append-nil}
use Rattle.std.proofs.Common.{arith, Bool, false, inl, inr, length, List, map, None, refl, Some}
use Rattle.std.proofs.Common.{subst, suc, sym, true, zero, ℕ}
use Rattle.std.proofs.lemmas.Bool.{cases_lt, eq-eqb, le-leb, lt-leb, lt-ltb, ne_eqb}
use Rattle.std.proofs.lemmas.Bool.Decides.{nat_tests}
use Rattle.std.proofs.lemmas.Grind.{flat_map-append}
use Rattle.std.proofs.lemmas.List.{length-append, map-id}
use Rattle.std.proofs.lemmas.List.Concat.{flat_map-cons}
use Rattle.std.proofs.lemmas.List.Elements.{filter-append}
use Rattle.std.proofs.lemmas.List.Folds.{list_any-append}
use Rattle.std.proofs.lemmas.List.FromFn.{map-range_with_len_more}
use Rattle.std.proofs.lemmas.Option.{cond_some}
use Rattle.psci_board.specs.Board.{below, BoardValue, child, ChildLaws, children, cores_below}
use Rattle.psci_board.specs.Board.{first_child, HasNode, HasNodeIn, height, nodes, span, up}
use Rattle.psci_board.specs.declared.draft.Node.{Node}
use Rattle.psci_board.specs.declared.span.CoreSpan.{CoreSpan}
use Rattle.psci_state.specs.PowerState.{deepest_of}
use Rattle.psci_tree.specs.Recount.{active, granted_at, off, TreeValue}
use Rattle.psci_tree.specs.Standing.{on_path}
use Rattle.psci_tree.proofs.Ranges.{all_counted, counted_both}
use Rattle.psci_messages.specs.Claim.{children_of, claims_of, climb, elsewhere, granted_less}
use Rattle.psci_messages.specs.Claim.{off_claims, off_wish, own_claims, own_wish, refusal}
use Rattle.psci_messages.specs.Claim.{shallow_at}
use Rattle.psci_messages.specs.Looked.{view_of}
use Rattle.psci_messages.specs.View.{domain_of, generation, is_all_away, is_idle, PowerView}
use Rattle.psci_messages.specs.declared.osi.Osi.{Osi}
use Rattle.psci_messages.specs.declared.osi.Osi.TheVariants.{Denied, Invalid}
use Rattle.psci_osi.specs.Worse.{worse}

-- Two climbs that want the same as far as the first of them goes ----------------------------------

climb-none : (wanted gs : ℕ → ℕ) (level count : ℕ) → wanted level ≡ 0
    → climb wanted gs level count ≡ []
climb-none wanted gs level zero e = refl
climb-none wanted gs level (suc count) e = rw e refl

-- they want the same up to the top, and one above it nothing
climb-same : (f g gs : ℕ → ℕ) (level count top : ℕ) → level ≤ top + 1
    → ((l : ℕ) → l ≤ top → l < level + count → f l ≡ g l)
    → (top + 1 < level + count → f (top + 1) ≡ 0) → (top + 1 < level + count → g (top + 1) ≡ 0)
    → climb f gs level count ≡ climb g gs level count
climb-same f g gs level zero top h same end_f end_g = refl
climb-same f g gs level (suc count) top h same end_f end_g = elim (cases_lt level (top + 1)) [
  | inl below ↦
      let rest = climb-same f g gs (level + 1) count top (omega arith)
      (λ l i j. same l i (omega arith)) (λ i. end_f (omega arith)) (λ i. end_g (omega arith)) in
      rw (same level (omega arith) (omega arith), rest)
  | inr above ↦
      let at : level ≡ top + 1 = omega arith in
      let none_f : f level ≡ 0 = rw at (end_f (omega arith)) in
      let none_g : g level ≡ 0 = rw at (end_g (omega arith)) in
      climb-none f gs level (suc count) none_f ∙ sym (climb-none g gs level (suc count) none_g)
]

-- the deepest ask up to a level
deepest-at : (top level : ℕ) → level ≤ 3
    → slice_index (deepest_of top) level ≡ (if nat_le level top then 3 else 0)
deepest-at top level h = grind (arith, nat_tests)

deepest-below : (top level : ℕ) → level ≤ 3 → level ≤ top → slice_index (deepest_of top) level ≡ 3
deepest-below top level h i = rw (deepest-at top level h, le-leb level top i)

deepest-above : (top level : ℕ) → level ≤ 3 → top < level → slice_index (deepest_of top) level ≡ 0
deepest-above top level h i = rw (deepest-at top level h, lt-leb level top i)

-- a core that asks for power-down as far as all is off asks for what a core that goes off claims
pub own-off : (b : BoardValue) (v : PowerView) (core top : ℕ) → height b ≤ 3 → top ≤ height b
    → ((level : ℕ) → level ≤ top → off_wish b v core level ≡ 3)
    → (top < height b → off_wish b v core (top + 1) ≡ 0)
    → own_claims b v core (deepest_of top) ≡ off_claims b v core
unfolding claims_of
own-off b v core top high inside off last =
    climb-same (own_wish (deepest_of top)) (off_wish b v core)
    (λ l. generation b v (domain_of b core l)) 0 (height b + 1) top (omega arith)
    (λ l i j. deepest-below top l (omega arith) i ∙ sym (off l i))
    (λ i. deepest-above top (top + 1) (omega arith) (omega arith))
    (λ i. last (omega arith))

-- How many cores below a domain pass a test, and whether none or all do ---------------------------

twice : (b : Bool) → not (not b) ≡ b
twice true = refl
twice false = refl

-- none passes where none is counted
none_passes : (p : ℕ → Bool) (xs : List ℕ) → list_all (λ x. not (p x)) xs ≡ (count_by p xs == 0)
none_passes p xs =
    all_counted (λ x. not (p x)) xs
    ∙ ap (λ n. n == 0) (λ i. count_by (λ x. twice (p x) i) xs)

-- Below a domain ---------------------------------------------------------------------------------

pub is_idle-none : (b : BoardValue) (t : TreeValue) (n : Node) → t.levels ≡ b.levels
    → active t n ≡ 0 → is_idle b (view_of t) n ≡ true
unfolding active is_idle up
is_idle-none b t n e none =
    let none_here = rw e at none in
    none_passes _ (below b n) ∙ eq-eqb _ _ none_here

pub is_idle-some : (b : BoardValue) (t : TreeValue) (n : Node) → t.levels ≡ b.levels
    → (active t n ≡ 0 → ⊥) → is_idle b (view_of t) n ≡ false
unfolding active is_idle up
is_idle-some b t n e some =
    let some_here = rw e at some in
    none_passes _ (below b n) ∙ ne_eqb _ _ some_here

same_test : (x y z : ℕ) → x + y ≡ z → (x == z) ≡ (y == 0)
same_test x y z e = grind arith

pub off-is : (b : BoardValue) (t : TreeValue) (n : Node) (count : ℕ) → t.levels ≡ b.levels
    → length (below b n) ≡ count → (off t n == count) ≡ is_all_away b (view_of t) n
unfolding off is_all_away up
off-is b t n count e long =
    rw e (same_test _ _ _ (counted_both _ (below b n) ∙ long) ∙ sym (all_counted _ (below b n)))

-- the span of a node of the board
pub has-span : (b : BoardValue) (n : Node) (s : CoreSpan) → HasNode b n
    → Some s ≡ cores_below b n → s ≡ span b.levels n
has-span b n s has e =
    let here : cores_below b n ≡ Some (span b.levels n) =
    rw (le-leb n.level (height b) has.level, lt-ltb n.place (nodes b n.level) has.place) refl in
    cc (e ∙ here)

-- The reasons to refuse a request, one domain after another ---------------------------------------

pub refusal-append : (b : BoardValue) (v : PowerView) (xs ys : List Node)
    → refusal b v (xs ++ ys) ≡ worse (refusal b v xs) (refusal b v ys)
unfolding refusal
refusal-append b v xs ys =
    rw (list_any-append (is_idle b v) xs ys, length-append xs ys) (grind (arith, nat_tests))

pub worse-none : (fault : Option Osi) → worse fault None ≡ fault
worse-none None = refl
worse-none (Some Invalid) = refl
worse-none (Some Denied) = refl

-- One child of a tree ----------------------------------------------------------------------------

-- what a child refuses, by its place, what it was granted, and how many cores are active below
pub child_refuses : (b : BoardValue) (t : TreeValue) (n : Node) (own depth : ℕ) (fault : Option Osi)
    → t.levels ≡ b.levels
    → (n.place ≡ own → fault ≡ None)
    → ((n.place ≡ own → ⊥) → depth ≤ granted_at t n.level n.place → fault ≡ None)
    → ((n.place ≡ own → ⊥) → granted_at t n.level n.place < depth → active t n ≡ 0
    → fault ≡ Some Invalid)
    → ((n.place ≡ own → ⊥) → granted_at t n.level n.place < depth → (active t n ≡ 0 → ⊥)
    → fault ≡ Some Denied)
    → fault ≡ refusal b (view_of t) (granted_less (view_of t) depth (elsewhere own (n ∷ [])))
unfolding refusal
child_refuses b t n own depth fault e at deep idle busy =
    let none = is_idle-none b t n e in
    let some = is_idle-some b t n e in
    grind (arith, nat_tests)

-- Gathered ----------------------------------------------------------------------------------------

-- Child by child ---------------------------------------------------------------------------------

-- so many children of a domain, from left to right
abbrev pub first_children : BoardValue → Node → ℕ → List Node
first_children b n count =
    map (λ place. record { level = n.level - 1; place = place })
    (range_with_len (first_child b n.level n.place) count)

pub first_children-more : (b : BoardValue) (n m : Node) (count : ℕ) → count < children b n
    → child b n count ≡ Some m
    → first_children b n (count + 1) ≡ first_children b n count ++ m ∷ []
first_children-more b n m count h e =
    let first : ℕ = first_child b n.level n.place in
    let here : child b n count ≡ Some (record { level = n.level - 1; place = first + count }) =
    rw (lt-ltb count (children b n) h) refl in
    let same : record { level = n.level - 1; place = first + count } ≡ m = cc (sym here ∙ e) in
    rw (← same) (map-range_with_len_more (λ place. record { level = n.level - 1; place = place })
    first count (first + count) refl)

pub child-refusal-more : (b : BoardValue) (v : PowerView) (depth own : ℕ) (n m : Node) (count : ℕ)
    (fault : Option Osi) → count < children b n → child b n count ≡ Some m
    → fault ≡ refusal b v (granted_less v depth (elsewhere own (first_children b n count)))
    → worse fault (refusal b v (granted_less v depth (elsewhere own (m ∷ []))))
    ≡ refusal b v (granted_less v depth (elsewhere own (first_children b n (count + 1))))
child-refusal-more b v depth own n m count fault h e so = rw (
  first_children-more b n m count h e,
  filter-append,
  filter-append,
  refusal-append,
  so,
)

-- Level by level ---------------------------------------------------------------------------------

range-more : (a n next : ℕ) → next ≡ a + n
    → range_with_len a (n + 1) ≡ range_with_len a n ++ next ∷ []
range-more a n next e = simp map-id at (map-range_with_len_more (λ x. x) a n next (sym e))

-- the shallow domains of an ask at so many levels from 1 up
abbrev pub shallow_to : BoardValue → PowerView → ℕ → List ℕ → ℕ → List Node
shallow_to b v core ask count = flat_map (shallow_at b v core ask) (range_with_len 1 count)

pub level-refusal-more : (b : BoardValue) (v : PowerView) (core : ℕ) (ask : List ℕ) (level : ℕ)
    (fault : Option Osi) → fault ≡ refusal b v (shallow_to b v core ask level)
    → worse fault (refusal b v (granted_less v (own_wish ask (level + 1))
    (elsewhere (up b level core) (children_of b (domain_of b core (level + 1))))))
    ≡ refusal b v (shallow_to b v core ask (level + 1))
unfolding shallow_at
level-refusal-more b v core ask level fault so =
    let below : level + 1 - 1 ≡ level = omega arith in
    rw (
      so,
      range-more 1 level (level + 1) (omega arith),
      flat_map-append,
      flat_map-cons,
      append-nil,
      refusal-append,
      below,
    )

-- the node of a level on a core's path, as the tree says it
pub tree-at : (b : BoardValue) (ws : List (List ℕ)) (core level : ℕ) (n : Node)
    → n ≡ on_path ws core level → ws ≡ b.levels → n ≡ domain_of b core level
unfolding up
tree-at b ws core level n e same = e ∙ ap (λ vs. on_path vs core level) same

-- one level more, by the nodes of a path
pub path-refusal-more : (b : BoardValue) (v : PowerView) (core : ℕ) (ask : List ℕ) (level : ℕ)
    (fault here : Option Osi) (own above : Node) (depth : ℕ)
    → own ≡ domain_of b core level → above ≡ domain_of b core (level + 1)
    → depth ≡ slice_index ask (level + 1)
    → here ≡ refusal b v (granted_less v depth (elsewhere own.place (children_of b above)))
    → fault ≡ refusal b v (shallow_to b v core ask level)
    → worse fault here ≡ refusal b v (shallow_to b v core ask (level + 1))
path-refusal-more b v core ask level fault here own above depth o a d e so =
    rw (e, o, a, d) (level-refusal-more b v core ask level fault so)

-- The children of a domain, which stand side by side ----------------------------------------------

-- the child of a number stands so many places behind the first
pub nth_child : (b : BoardValue) (n f : Node) (k : ℕ) → child b n 0 ≡ Some f → k < children b n
    → child b n k ≡ Some (record { level = f.level; place = f.place + k })
nth_child b n f k e h =
    let is = (cond_some _ _ _ e).1 in
    let level : n.level - 1 ≡ f.level = ap (λ (x : Node). x.level) is in
    let place : first_child b n.level n.place + k ≡ f.place + k =
    omega (arith, ap (λ (x : Node). x.place) is) in
    rw (lt-ltb k (children b n) h, level, place) refl

-- and is a domain of each tree with the levels of the board
pub has_child : (b : BoardValue) (levels : List (List ℕ)) (n f : Node) (k : ℕ) → levels ≡ b.levels
    → ChildLaws b → child b n 0 ≡ Some f → k < children b n
    → HasNodeIn levels (record { level = f.level; place = f.place + k })
has_child b levels n f k same laws e h =
    subst (λ ls. HasNodeIn ls (record { level = f.level; place = f.place + k })) (sym same)
    (laws.child_node n _ k (nth_child b n f k e h))

-- a domain without a first child has none
pub none_first : (b : BoardValue) (n : Node) → child b n 0 ≡ None → children b n ≡ 0
none_first b n e = grind (arith, nat_tests)
