-- Granted depths after a change, by level and place.
use Rattle.std.proofs.lemmas.Bool.{cases_lt}
use Rattle.std.proofs.lemmas.List.{get_or_past, set-get_or, set_past}
use Rattle.psci_tree.specs.Changes.{MayGrant, with_confirmed, with_grant}
use Rattle.psci_tree.proofs.Words.{◌&&◌, ◌++◌, ◌+◌, ◌-◌, ◌<◌, ◌==◌, ◌∙◌, ◌∷◌, ◌≡◌, ◌≤◌, []}
use Rattle.psci_tree.proofs.Words.{add-one, all_off, ap, append-nil, arith, Bool, cases_eq, cond}
use Rattle.psci_tree.proofs.Words.{depth_set, drop, drop_all, eq-eqb, get_or, get_or-map}
use Rattle.psci_tree.proofs.Words.{get_or-replicate, get_or-set_other, get_or-set_same}
use Rattle.psci_tree.proofs.Words.{granted_at, group_of, HasNodeIn, inl, inr, inside, IsActivity}
use Rattle.psci_tree.proofs.Words.{IsDomainTree, IsTree, IsWayOf, length, length-map}
use Rattle.psci_tree.proofs.Words.{length-replicate, length-set, level_sizes, List, map}
use Rattle.psci_tree.proofs.Words.{nat_tests, ne_eqb, never_started, Node, path_cleared}
use Rattle.psci_tree.proofs.Words.{place_above, place_above-suc, refl, replicate}
use Rattle.psci_tree.proofs.Words.{rows_with_depth, set, size_below, still_confirmed, suc, sym}
use Rattle.psci_tree.proofs.Words.{take, take_all, TreeValue, true, Way, with_path_cleared, zero}
use Rattle.psci_tree.proofs.Words.{ℕ}

-- One written place --------------------------------------------------------------------------

pub at_set : {X : Type 0} (xs : List X) (i : ℕ) (x d : X) (p : ℕ) → i < length xs
    → get_or (set xs i x) p d ≡ cond (i == p) x (get_or xs p d)
at_set xs i x d p h = elim (cases_eq i p) [
  | inl e ↦ rw (eq-eqb i p e, ← e) (get_or-set_same xs i x d h)
  | inr e ↦ rw (ne_eqb i p e) (get_or-set_other xs i p x d (λ q. e (sym q)))
]

zero_either : (b : Bool) → ◌≡◌ {A = ℕ} 0 (cond b 0 0)
zero_either b = grind arith

at_set_zero : (g : List ℕ) (i p : ℕ) → get_or (set g i 0) p 0 ≡ cond (i == p) 0 (get_or g p 0)
at_set_zero g i p = elim (cases_lt i (length g)) [
  | inl h ↦ at_set g i 0 0 p h
  | inr h ↦ rw (set_past g i 0 h) (grind (arith, nat_tests, get_or_past))
]

-- The path of a core -------------------------------------------------------------------------

pub above_top : (l i : ℕ) → place_above [] l i ≡ i
above_top zero i = refl
above_top (suc l) i = refl

-- what is granted after nothing is granted on a path any more
pub zero_at : (levels gs : List (List ℕ)) (i l p : ℕ)
    → get_or (get_or (path_cleared levels i gs) l []) p 0
    ≡ cond (place_above levels l i == p) 0 (get_or (get_or gs l []) p 0)
zero_at levels [] i l p = zero_either (place_above levels l i == p)
zero_at [] (g ∷ gs) i zero p = at_set_zero g i p
zero_at [] (g ∷ gs) i (suc l) p = rw above_top at (zero_at [] gs i l p)
zero_at (w ∷ ws) (g ∷ gs) i zero p = at_set_zero g i p
zero_at (w ∷ ws) (g ∷ gs) i (suc l) p = zero_at ws gs (group_of w i) l p

pub zero_lengths : (levels gs : List (List ℕ)) (i : ℕ)
    → map length (path_cleared levels i gs) ≡ map length gs
zero_lengths levels [] i = refl
zero_lengths [] (g ∷ gs) i = simp (length-set, zero_lengths [] gs i)
zero_lengths (w ∷ ws) (g ∷ gs) i = simp (length-set, zero_lengths ws gs (group_of w i))

zero_top : (gs : List (List ℕ)) (l i : ℕ) → l < length gs
    → take (suc l) (set gs l (set (get_or gs l []) i 0)) ++ path_cleared [] i (drop (suc l)
    (set gs l (set (get_or gs l []) i 0))) ≡ take l gs ++ path_cleared [] i (drop l gs)
zero_top [] l i h = absurd (omega arith)
zero_top (g ∷ gs) zero i h = refl
zero_top (g ∷ gs) (suc l) i h = ap (λ xs. g ∷ xs) (zero_top gs l i (omega arith))

-- one more level, as a loop upwards takes it
pub zero_more : (levels gs : List (List ℕ)) (l i : ℕ) → l < length gs
    → take (suc l) (set gs l (set (get_or gs l []) i 0))
    ++ path_cleared (drop (suc l) levels) (place_above (drop l levels) 1 i)
    (drop (suc l) (set gs l (set (get_or gs l []) i 0)))
    ≡ take l gs ++ path_cleared (drop l levels) i (drop l gs)
zero_more levels [] l i h = absurd (omega arith)
zero_more [] (g ∷ gs) zero i h = refl
zero_more (w ∷ ws) (g ∷ gs) zero i h = refl
zero_more [] (g ∷ gs) (suc l) i h = ap (λ xs. g ∷ xs) (zero_top gs l i (omega arith))
zero_more (w ∷ ws) (g ∷ gs) (suc l) i h = ap (λ xs. g ∷ xs) (zero_more ws gs l i (omega arith))

pub parent_is : (levels : List (List ℕ)) (l i : ℕ) → l < length levels
    → place_above (drop l levels) 1 i ≡ group_of (get_or levels l []) i
parent_is [] l i h = absurd (omega arith)
parent_is (w ∷ ws) zero i h = refl
parent_is (w ∷ ws) (suc l) i h = parent_is ws l i (omega arith)

pub row_lengths : (gs : List (List ℕ)) (l i x : ℕ)
    → map length (set gs l (set (get_or gs l []) i x)) ≡ map length gs
row_lengths [] l i x = refl
row_lengths (g ∷ gs) zero i x = simp length-set
row_lengths (g ∷ gs) (suc l) i x = simp (row_lengths gs l i x)

-- cores of one domain are of one domain above it
pub same_up : (levels : List (List ℕ)) (l c d : ℕ) → place_above levels l c ≡ place_above levels l d
    → place_above levels (suc l) c ≡ place_above levels (suc l) d
same_up [] zero c d e = e
same_up [] (suc l) c d e = e
same_up (w ∷ ws) zero c d e = ap (group_of w) e
same_up (w ∷ ws) (suc l) c d e = same_up ws l (group_of w c) (group_of w d) e

pub size_of_level : (levels : List (List ℕ)) (l : ℕ) → l ≤ length levels
    → get_or (level_sizes levels) l 0 ≡ size_below (drop l levels)
size_of_level [] zero h = refl
size_of_level [] (suc l) h = absurd (omega arith)
size_of_level (w ∷ ws) zero h = refl
size_of_level (w ∷ ws) (suc l) h = size_of_level ws l (omega arith)

pub length_level_sizes : (levels : List (List ℕ))
    → length (level_sizes levels) ≡ suc (length levels)
length_level_sizes [] = refl
length_level_sizes (w ∷ ws) = ap suc (length_level_sizes ws)

pub rows_long : (levels rows : List (List ℕ)) → map length rows ≡ level_sizes levels
    → length rows ≡ suc (length levels)
rows_long levels rows v =
    sym (length-map rows length) ∙ ap length v ∙ length_level_sizes levels

-- how long the row of a level is
pub row_length : (levels gs : List (List ℕ)) (l : ℕ) → map length gs ≡ level_sizes levels
    → l ≤ length levels → length (get_or gs l []) ≡ size_below (drop l levels)
row_length levels gs l e h =
    sym (get_or-map length gs l [] 0 (omega (arith, rows_long levels gs e)))
    ∙ ap (λ xs. get_or xs l 0) e ∙ size_of_level levels l h

-- One domain ---------------------------------------------------------------------------------

-- the row of a domain's level
pub record RowOf (gs : List (List ℕ)) (n : Node) : Type 0 where
  pub level : n.level < length gs
  pub place : n.place < length (get_or gs n.level [])

pub row_of : (levels gs : List (List ℕ)) (n : Node) → map length gs ≡ level_sizes levels
    → HasNodeIn levels n → RowOf gs n
row_of levels gs n e h = record {
  level = omega (arith, h.level, rows_long levels gs e);
  place = omega (arith, h.place, row_length levels gs n.level e h.level);
}

-- a depth of one domain
pub depth_at : (levels gs : List (List ℕ)) (n : Node) (depth l p : ℕ)
    → map length gs ≡ level_sizes levels → HasNodeIn levels n
    → get_or (get_or (depth_set gs n depth) l []) p 0
    ≡ cond (n.level == l && n.place == p) depth (get_or (get_or gs l []) p 0)
depth_at levels gs n depth l p v h =
    let at = row_of levels gs n v h in
    rw (at_set gs n.level (set (get_or gs n.level []) n.place depth) [] l at.level)
    (elim (cases_eq n.level l) [
      | inl e ↦ rw (eq-eqb n.level l e, ← e)
          (at_set (get_or gs n.level []) n.place depth 0 p at.place)
      | inr e ↦ rw (ne_eqb n.level l e)
    ])

-- a granted depth of one domain
pub grant_at : (t : TreeValue) (n : Node) (depth l p : ℕ) → IsDomainTree t → HasNodeIn t.levels n
    → granted_at (with_grant t n depth) l p
    ≡ cond (n.level == l && n.place == p) depth (granted_at t l p)
unfolding with_grant
grant_at t n depth l p v h = depth_at t.levels t.granted n depth l p v.granted h

-- The start of a life ------------------------------------------------------------------------

pub rows_at : (counts : List ℕ) (l p : ℕ) → p < get_or counts l 0
    → ◌≡◌ {A = ℕ} (get_or (get_or (rows_with_depth counts 3) l []) p 0) 3
rows_at [] l p h = absurd (omega arith)
rows_at (n ∷ ns) zero p h = get_or-replicate n p 3 0 h
rows_at (n ∷ ns) (suc l) p h = rows_at ns l p h

-- Rows with 0 on the path of a core, from a level up ----------------------------------------------

-- the node of a level on the way to a core
pub path_node : (levels : List (List ℕ)) (core l : ℕ) (way : Way) → IsTree levels
    → core < size_below levels → IsWayOf levels core way → l ≤ length levels
    → HasNodeIn levels (record { level = l; place = get_or way.places l 0 })
path_node levels core l way t h is le = record {
  level = le;
  place = omega (arith, is.places l le, inside levels l core t h le);
}

-- rows with 0 on the path of a core, from this level up
abbrev pub cleared_from : List (List ℕ) → ℕ → ℕ → List (List ℕ) → List (List ℕ)
cleared_from levels core level rows = take level rows
    ++ path_cleared (drop level levels) (place_above levels level core) (drop level rows)

-- one level written, and those above it
cleared_step : (levels rows : List (List ℕ)) (core l p : ℕ) → l < length levels
    → l < length rows → p ≡ place_above levels l core
    → cleared_from levels core (l + 1) (set rows l (set (get_or rows l []) p 0))
    ≡ cleared_from levels core l rows
cleared_step levels rows core l p h i at =
    let q : ℕ = place_above levels l core in
    let next : l + 1 ≡ suc l = omega arith in
    rw (at, next, place_above-suc levels l core h, ← (parent_is levels l q h))
    (zero_more levels rows l q i)

-- the highest level written
cleared_top : (levels rows : List (List ℕ)) (core l p : ℕ) → l ≡ length levels
    → length rows ≡ suc (length levels) → p ≡ place_above levels l core
    → set rows l (set (get_or rows l []) p 0) ≡ cleared_from levels core l rows
cleared_top levels rows core l p top long at =
    let q : ℕ = place_above levels l core in
    let xs : List (List ℕ) = set rows l (set (get_or rows l []) q 0) in
    let past : length xs ≤ suc l =
    omega (arith, length-set rows l (set (get_or rows l []) q 0), top, long) in
    let more = zero_more levels rows l q (omega (arith, top, long)) in
    rw at (simp (drop_all (suc l) xs past, take_all (suc l) xs past, append-nil) at more)

-- above the highest level there is nothing left to write
pub cleared_over : (levels rows : List (List ℕ)) (core l : ℕ) → length levels < l
    → length rows ≡ suc (length levels) → cleared_from levels core l rows ≡ rows
cleared_over levels rows core l h long =
    let past : length rows ≤ l = omega (arith, h, long) in
    rw (drop_all l rows past, take_all l rows past, append-nil) refl

-- one level written, the highest one too
pub cleared_more : (levels rows : List (List ℕ)) (core l p : ℕ) → l ≤ length levels
    → length rows ≡ suc (length levels) → p ≡ place_above levels l core
    → cleared_from levels core (l + 1) (set rows l (set (get_or rows l []) p 0))
    ≡ cleared_from levels core l rows
cleared_more levels rows core l p h long at = elim (cases_eq l (length levels)) [
  | inl top ↦
      cleared_over levels (set rows l (set (get_or rows l []) p 0)) core (l + 1)
      (omega (arith, top)) (length-set rows l (set (get_or rows l []) p 0) ∙ long)
      ∙ cleared_top levels rows core l p top long at
  | inr below ↦ cleared_step levels rows core l p (omega (arith, h, below)) (omega (arith, h, long))
      at
]

-- Nothing to clear ---------------------------------------------------------------------------

none_cleared : (levels rows : List (List ℕ)) (p : ℕ)
    → ((l : ℕ) → get_or (get_or rows l []) (place_above levels l p) 0 ≡ 0)
    → path_cleared levels p rows ≡ rows
none_cleared levels [] p h = refl
none_cleared [] (g ∷ gs) p h =
    let here = rw (h 0) at (set-get_or g p 0) in
    let above = none_cleared [] gs p (λ l. rw above_top (h (suc l))) in
    cc
none_cleared (w ∷ ws) (g ∷ gs) p h =
    let here = rw (h 0) at (set-get_or g p 0) in
    let above = none_cleared ws gs (group_of w p) (λ l. h (suc l)) in
    cc

-- what is granted to a core bounds what is granted on its path
none_granted : (t : TreeValue) (core l : ℕ) → IsDomainTree t → core < size_below t.levels
    → granted_at t 0 core ≡ 0 → granted_at t l (place_above t.levels l core) ≡ 0
none_granted t core zero v h e = e
none_granted t core (suc l) v h e = elim (cases_lt l (length t.levels)) [
  | inl in_tree ↦
      let up : l + 1 ≡ suc l = omega arith in
      let below : granted_at t l (place_above t.levels l core) ≡ 0 =
      none_granted t core l v h e in
      let above = v.nested core l h in_tree in
      let here = rw up at above in
      omega (arith, here, below)
  | inr past ↦ rw (get_or_past t.granted (suc l) []
      (omega (arith, past, rows_long t.levels t.granted v.granted))) refl
]

-- a core to which nothing is granted has a path on which nothing is to be taken away
pub none_to_clear : (t : TreeValue) (core : ℕ) → IsDomainTree t → core < size_below t.levels
    → granted_at t 0 core ≡ 0 → with_path_cleared t core ≡ t
none_to_clear t core v h e =
    let granted : (l : ℕ) → granted_at t l (place_above t.levels l core) ≡ 0 =
    λ l. none_granted t core l v h e in
    rw (
      none_cleared t.levels t.granted core granted,
      none_cleared t.levels t.confirmed core
          (λ l. omega (arith, granted l, v.sure l (place_above t.levels l core))),
    )

-- What holds of every tree holds after each change, and at the start of a life --------------------

-- The path of a core -------------------------------------------------------------------------

pub path_valid : (t : TreeValue) (core : ℕ) → IsDomainTree t
    → IsDomainTree (with_path_cleared t core)
path_valid t core v = record {
  tree = v.tree;
  high = v.high;
  cores = v.cores;
  asks = v.asks;
  granted = zero_lengths t.levels t.granted core ∙ v.granted;
  confirmed = zero_lengths t.levels t.confirmed core ∙ v.confirmed;
  deepest = λ l p. grind (arith, zero_at, v.deepest l p);
  nested = λ c l i h.
      let up = rw (← add-one) at (same_up t.levels l core c) in
      grind (arith, nat_tests, zero_at, v.nested c l i h);
  sure = λ l p. grind (arith, zero_at, v.sure l p);
}

-- A granted depth ----------------------------------------------------------------------------

pub is_domain : (n : Node) (l p : ℕ) → (n.level == l && n.place == p) ≡ true
    → (n.level ≡ l) × (n.place ≡ p)
is_domain n l p h = grind (arith, nat_tests)

pub confirmed_valid : (t : TreeValue) (n : Node) → IsDomainTree t → HasNodeIn t.levels n
    → IsDomainTree (with_confirmed t n)
unfolding with_confirmed
confirmed_valid t n v h = record {
  tree = v.tree;
  high = v.high;
  cores = v.cores;
  asks = v.asks;
  granted = v.granted;
  confirmed = row_lengths t.confirmed n.level n.place (granted_at t n.level n.place)
      ∙ v.confirmed;
  deepest = v.deepest;
  nested = v.nested;
  sure = λ l p.
      let same : n.level ≡ l → n.place ≡ p
      → granted_at t n.level n.place ≡ granted_at t l p = λ d e. rw (d, e) in
      grind (arith, nat_tests, depth_at, v.confirmed, v.sure l p);
}

pub grant_valid : (t : TreeValue) (n : Node) (depth : ℕ) → IsDomainTree t → HasNodeIn t.levels n
    → MayGrant t n depth → IsDomainTree (with_grant t n depth)
unfolding with_grant
grant_valid t n depth v h may = record {
  tree = v.tree;
  high = v.high;
  cores = v.cores;
  asks = v.asks;
  granted = row_lengths t.granted n.level n.place depth ∙ v.granted;
  confirmed = row_lengths t.confirmed n.level n.place (still_confirmed t n depth) ∙ v.confirmed;
  deepest = λ l p. grind (arith, grant_at, may.deepest, v.deepest l p);
  nested = λ c l i b.
      let up = child c l i in
      let down = parent c l i b in
      grind (arith, nat_tests, grant_at, v.nested c l i b);
  sure = λ l p.
      let own = v.sure n.level n.place in
      grind (arith, nat_tests, grant_at, depth_at, v.confirmed, v.sure l p);
}
  where
    child : (c l : ℕ) → c < size_below t.levels → n.level ≡ l + 1 → n.place
        ≡ place_above t.levels (l + 1) c → depth ≤ granted_at t l (place_above t.levels l c)
    child c l i d e =
        let same : n.level - 1 ≡ l = omega arith in
        let here = may.children c i (omega arith) (rw d (sym e)) in
        rw same at here

    parent : (c l : ℕ) → c < size_below t.levels → l < length t.levels → n.level ≡ l → n.place
        ≡ place_above t.levels l c → granted_at t (l + 1) (place_above t.levels (l + 1) c) ≤ depth
    parent c l i b d e =
        let here = may.parent c i (omega arith) (rw d (sym e)) in
        rw d at here

-- The start of a life ------------------------------------------------------------------------

rows_le : (counts : List ℕ) (l p : ℕ) → get_or (get_or (rows_with_depth counts 3) l []) p 0 ≤ 3
rows_le [] l p = omega arith
rows_le (n ∷ ns) zero p = elim (cases_lt p n) [
  | inl h ↦ rw (get_or-replicate {A = ℕ} n p 3 0 h) (omega arith)
  | inr h ↦
      rw (get_or_past {X = ℕ} (replicate n 3) p 0
      (omega (arith, length-replicate {A = ℕ} n 3))) (omega arith)
]
rows_le (n ∷ ns) (suc l) p = rows_le ns l p

rows_lengths : (counts : List ℕ) → map length (rows_with_depth counts 3) ≡ counts
rows_lengths [] = refl
rows_lengths (n ∷ ns) = simp (length-replicate, rows_lengths ns)

pub all_idle : (n c : ℕ)
    → IsActivity (get_or (replicate n never_started) c never_started).activity
all_idle zero c = tt
all_idle (suc n) zero = tt
all_idle (suc n) (suc c) = all_idle n c

pub all_off_valid : (levels : List (List ℕ)) → IsTree levels → length levels ≤ 3
    → IsDomainTree (all_off levels)
all_off_valid levels t h = record {
  tree = t;
  high = h;
  cores = length-replicate (size_below levels) never_started;
  asks = all_idle (size_below levels);
  granted = rows_lengths (level_sizes levels);
  confirmed = rows_lengths (level_sizes levels);
  deepest = λ l p. rows_le (level_sizes levels) l p;
  nested = λ c l i b.
      let there = inside levels l c t i (omega arith) in
      rw (rows_at (level_sizes levels) l (place_above levels l c)
      (omega (arith, there, size_of_level levels l (omega arith))))
      (rows_le (level_sizes levels) (l + 1) (place_above levels (l + 1) c));
  sure = λ l p. omega arith;
}
