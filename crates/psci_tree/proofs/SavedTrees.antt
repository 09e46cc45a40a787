-- A tree of loaded depths, and what the words of a tree tell.
use Rattle.std.specs.List.{list_all}
use Rattle.std.specs.Prelude.{nat_le}
use Rattle.std.proofs.Common.{◌*◌, ◌++◌, ◌+◌, ◌-◌, ◌<◌, ◌∙◌, ◌∷◌, ◌≡◌, ◌≤◌, [], ap, append_assoc}
use Rattle.std.proofs.Common.{arith, drop, get_or, inl, inr, length, List, map, refl, set, subst}
use Rattle.std.proofs.Common.{suc, sum, sym, take, true, zero, ℕ}
use Rattle.std.proofs.Math.ListN.{get_or-append}
use Rattle.std.proofs.Math.Seq.{drop-append_seam, get_or-append_right, take-append_seam}
use Rattle.std.proofs.lemmas.Bool.{and_from, and_parts, cases_lt, eq-eqb, eqb-true, le-leb}
use Rattle.std.proofs.lemmas.Bool.{leb-true}
use Rattle.std.proofs.lemmas.List.{drop_more, get_or-map, get_or_default, get_or_past}
use Rattle.std.proofs.lemmas.List.{length-append, length-drop, length-map, length-take-le}
use Rattle.std.proofs.lemmas.List.{map-set, take-append-drop, take_more_set}
use Rattle.std.proofs.lemmas.List.Concat.{flat_map-cons}
use Rattle.std.proofs.lemmas.List.Folds.{list_all-append}
use Rattle.psci_board.specs.Board.{size_below}
use Rattle.psci_state.specs.declared.cores.CoreState.{CoreState}
use Rattle.psci_tree.specs.Recount.{IsActivity, IsDomainTree, level_sizes, never_started}
use Rattle.psci_tree.specs.Recount.{TreeValue}
use Rattle.psci_tree.specs.Saved.{are_depths, are_nested, are_sure, depth_words}
use Rattle.psci_tree.specs.Saved.{domain_count, is_nested, is_nested_at, rows_of, with_depths}
use Rattle.psci_tree.specs.declared.depths.Depths.{Depths}
use Rattle.psci_tree.proofs.SavedCores.{AreActivities}
use Rattle.psci_tree.proofs.SavedRows.{all_range, at_range, flat, flat_long, flat_more}
use Rattle.psci_tree.proofs.SavedRows.{flat_room, rows_back, rows_below}
use Rattle.psci_tree.proofs.SavedRows.{rows_flat, rows_long, rows_low, set_same, sum_left}

-- Rows of depths as they are written and read, level by level -------------------------------------

-- one of the two depths of each domain
abbrev pub read : (Depths → ℕ) → List (List Depths) → List (List ℕ)
read f rows = map (map f) rows

row_read : (f : Depths → ℕ) (rows : List (List Depths)) (row : List Depths) (k : ℕ)
    → k < length rows → get_or rows k [] ≡ row → get_or (read f rows) k [] ≡ map f row
row_read f rows row k h e = get_or-map (map f) rows k [] [] h ∙ ap (map f) e

-- Written ------------------------------------------------------------------------------------

-- there is room for the row of this level
pub row_room : (f : Depths → ℕ) (rows : List (List Depths)) (row : List Depths) (k start next n : ℕ)
    → k < length rows → get_or rows k [] ≡ row
    → next ≡ start + length (flat (take k (read f rows)))
    → start + length (flat (read f rows)) ≤ n → next + length row ≤ n
row_room f rows row k start next n h e is room = omega (
  arith,
  is,
  room,
  flat_room (read f rows) k (omega (arith, h, length-map rows (map f))),
  ap (λ (xs : List ℕ). length xs) (row_read f rows row k h e),
  length-map row f,
)

-- the levels so far, with one more
pub row_written : (f : Depths → ℕ) (rows : List (List Depths)) (row : List Depths)
    (k start next : ℕ) (w v u : List ℕ) → k < length rows → get_or rows k [] ≡ row
    → take next v ≡ take start w ++ flat (take k (read f rows))
    → take (next + length row) u ≡ take next v ++ map f row
    → take (next + length row) u ≡ take start w ++ flat (take (k + 1) (read f rows))
row_written f rows row k start next w v u h e before now =
    let fits : k < length (read f rows) = omega (arith, h, length-map rows (map f)) in
    now
    ∙ ap (λ xs. xs ++ map f row) before
    ∙ append_assoc (take start w) (flat (take k (read f rows))) (map f row)
    ∙ ap (λ xs. take start w ++ xs)
    (ap (λ xs. flat (take k (read f rows)) ++ xs) (sym (row_read f rows row k h e))
    ∙ sym (flat_more (read f rows) k fits))

pub row_next : (f : Depths → ℕ) (rows : List (List Depths)) (row : List Depths)
    (k start next : ℕ) → k < length rows → get_or rows k [] ≡ row
    → next ≡ start + length (flat (take k (read f rows)))
    → next + length row ≡ start + length (flat (take (k + 1) (read f rows)))
row_next f rows row k start next h e is =
    let fits : k < length (read f rows) = omega (arith, h, length-map rows (map f)) in
    omega (
      arith,
      is,
      ap (λ (xs : List ℕ). length xs) (flat_more (read f rows) k fits),
      length-append (flat (take k (read f rows))) (get_or (read f rows) k []),
      ap (λ (xs : List ℕ). length xs) (row_read f rows row k h e),
      length-map row f,
    )

-- Read ---------------------------------------------------------------------------------------

-- the levels so far, with one more
pub row_loaded : (f : Depths → ℕ) (now : List (List Depths)) (old : List ℕ) (k : ℕ)
    (new : List Depths) (rest : List ℕ) (all : List (List ℕ)) → k < length now
    → k < length old → map f new ≡ take (get_or old k 0) rest
    → take k (read f now) ++ rows_of (drop k old) rest ≡ all
    → take (k + 1) (read f (set now k new))
    ++ rows_of (drop (k + 1) old) (drop (get_or old k 0) rest) ≡ all
row_loaded f now old k new rest all h i is before =
    let n = get_or old k 0 in
    let others = rows_of (drop (k + 1) old) (drop n rest) in
    let fits : k < length (read f now) = omega (arith, h, length-map now (map f)) in
    ap (λ rows. take (k + 1) rows ++ others) (map-set (map f) now k new)
    ∙ ap (λ rows. rows ++ others) (take_more_set (read f now) k (map f new) fits)
    ∙ append_assoc (take k (read f now)) (map f new ∷ []) others
    ∙ ap (λ row. take k (read f now) ++ row ∷ others) is
    ∙ ap (λ ns. take k (read f now) ++ rows_of ns rest) (sym (drop_more old k 0 i))
    ∙ before

-- as many domains as before
pub row_sizes : (now : List (List Depths)) (old : List ℕ) (k : ℕ) (new : List Depths)
    → k < length now → map length now ≡ old → length new ≡ get_or old k 0
    → map length (set now k new) ≡ old
row_sizes now old k new h e n =
    let fits : k < length (map (λ (row : List Depths). length row) now) =
    omega (arith, h, length-map now (λ (row : List Depths). length row)) in
    map-set length now k new
    ∙ ap (λ ns. set ns k (length new)) e
    ∙ set_same old k (length new) (sym n) (omega (arith, fits, ap (λ (xs : List ℕ). length xs) e))

pub row_left : (old : List ℕ) (k : ℕ) (rest : List ℕ) → k < length old
    → length rest ≡ sum (drop k old)
    → length (drop (get_or old k 0) rest) ≡ sum (drop (k + 1) old)
row_left old k rest h e = omega (arith, e, sum_left old k h, length-drop (get_or old k 0) rest)

-- Saved trees -------------------------------------------------------------------------------------

-- Loaded -------------------------------------------------------------------------------------

-- words of depths, taken apart
pub record IsLoaded (levels : List (List ℕ)) (gs cs : List ℕ) : Type 0 where
  pub count : length gs ≡ domain_count levels
  pub counted : length cs ≡ domain_count levels
  pub low : (k : ℕ) → get_or gs k 0 ≤ 3
  pub sure : (k : ℕ) → get_or cs k 0 ≤ get_or gs k 0
  pub nested : are_nested levels (rows_of (level_sizes levels) gs) ≡ true

below : (ws : List ℕ) (most k : ℕ) → list_all (λ d. nat_le d most) ws ≡ true → get_or ws k 0 ≤ most
below [] most k h = omega arith
below (w ∷ ws) most zero h = leb-true w most (and_parts _ _ h).0
below (w ∷ ws) most (suc k) h = below ws most k (and_parts _ _ h).1

surely : (gs cs : List ℕ) → length cs ≡ length gs → are_sure gs cs ≡ true
    → (k : ℕ) → get_or cs k 0 ≤ get_or gs k 0
surely gs cs n h k = elim (cases_lt k (length gs)) [
  | inl i ↦ leb-true (get_or cs k 0) (get_or gs k 0)
      (at_range (λ j. nat_le (get_or cs j 0) (get_or gs j 0)) 0 (length gs) k h
      (omega arith) (omega (arith, i)))
  | inr i ↦ omega (arith, get_or_past cs k 0 (omega (arith, i, n)))
]

pub loaded : (levels : List (List ℕ)) (ws : List ℕ) → are_depths levels ws ≡ true
    → IsLoaded levels (take (domain_count levels) ws) (drop (domain_count levels) ws)
loaded levels ws h =
    let n = domain_count levels in
    let both = and_parts _ _ h in
    let long : length ws ≡ 2 * n = eqb-true (length ws) (2 * n) both.0 in
    let front : length (take n ws) ≡ n = length-take-le n ws (omega (arith, long)) in
    let back : length (drop n ws) ≡ n = omega (arith, length-drop n ws, long) in
    let low = and_parts _ _ both.1 in
    let sure = and_parts _ _ low.1 in
    record {
      count = front;
      counted = back;
      low = λ k. below (take n ws) 3 k low.0;
      sure = surely (take n ws) (drop n ws) (back ∙ sym front) sure.0;
      nested = sure.1;
    }

-- a tree with such depths
pub valid : (t : TreeValue) (gs cs : List ℕ) → IsDomainTree t → IsLoaded t.levels gs cs
    → IsDomainTree (with_depths t gs cs)
valid t gs cs v is =
    let sizes = level_sizes t.levels in
    record {
      tree = v.tree;
      high = v.high;
      cores = v.cores;
      granted = rows_long sizes gs is.count;
      confirmed = rows_long sizes cs is.counted;
      asks = v.asks;
      deepest = λ l p. rows_low sizes gs 3 l p is.low;
      nested = λ c l i h. leb-true _ _
          (at_range (is_nested_at t.levels (rows_of sizes gs) c) 0 (length t.levels) l
          (at_range (is_nested t.levels (rows_of sizes gs)) 0 (size_below t.levels) c is.nested
          (omega arith) (omega (arith, i)))
          (omega arith) (omega (arith, h)));
      sure = λ l p. rows_below sizes cs gs l p is.sure;
    }

-- and its words are those
pub words_again : (t : TreeValue) (ws : List ℕ) → are_depths t.levels ws ≡ true
    → depth_words (with_depths t (take (domain_count t.levels) ws)
    (drop (domain_count t.levels) ws)) ≡ ws
unfolding depth_words
words_again t ws h =
    let n = domain_count t.levels in
    let sizes = level_sizes t.levels in
    let is = loaded t.levels ws h in
    ap (λ xs. xs ++ flat (rows_of sizes (drop n ws))) (rows_flat sizes (take n ws) is.count)
    ∙ ap (λ xs. take n ws ++ xs) (rows_flat sizes (drop n ws) is.counted)
    ∙ take-append-drop n ws

-- Saved --------------------------------------------------------------------------------------

flat_low : (rows : List (List ℕ)) (most : ℕ)
    → ((l p : ℕ) → get_or (get_or rows l []) p 0 ≤ most)
    → list_all (λ d. nat_le d most) (flat rows) ≡ true
flat_low [] most h = refl
flat_low (row ∷ rows) most h =
    ap (λ xs. list_all (λ d. nat_le d most) xs) (flat_map-cons (λ r. r) row rows)
    ∙ list_all-append (λ d. nat_le d most) row (flat rows)
    ∙ and_from _ _ (row_low row (h 0)) (flat_low rows most (λ l. h (suc l)))
  where
    row_low : (ws : List ℕ) → ((p : ℕ) → get_or ws p 0 ≤ most)
        → list_all (λ d. nat_le d most) ws ≡ true
    row_low [] i = refl
    row_low (w ∷ ws) i = and_from _ _ (le-leb w most (i 0)) (row_low ws (λ p. i (suc p)))

flat_below : (cs gs : List (List ℕ)) → map length cs ≡ map length gs
    → ((l p : ℕ) → get_or (get_or cs l []) p 0 ≤ get_or (get_or gs l []) p 0)
    → (k : ℕ) → get_or (flat cs) k 0 ≤ get_or (flat gs) k 0
flat_below [] gs n h k = omega arith
flat_below (c ∷ cs) [] n h k = absurd (omega (arith, ap (λ xs. length xs) n))
flat_below (c ∷ cs) (g ∷ gs) n h k =
    let long : length c ≡ length g = ap (λ xs. get_or xs 0 0) n in
    let this = ap (λ xs. get_or xs k 0) (flat_map-cons (λ r. r) c cs) in
    let that = ap (λ xs. get_or xs k 0) (flat_map-cons (λ r. r) g gs) in
    elim (cases_lt k (length c)) [
      | inl i ↦ omega (
        arith,
        this,
        that,
        get_or-append c (flat cs) 0 k i,
        get_or-append g (flat gs) 0 k (omega (arith, i, long)),
        h 0 k,
      )
      | inr i ↦
          let rest = flat_below cs gs (ap (λ xs. drop 1 xs) n) (λ l. h (suc l)) (k - length c) in
          let here = ap (λ j. get_or (flat gs) j 0)
          (let same : k - length g ≡ k - length c = omega (arith, long) in same) in
          omega (
            arith,
            this,
            that,
            get_or-append_right c (flat cs) k 0 i,
            get_or-append_right g (flat gs) k 0 (omega (arith, i, long)),
            here,
            rest,
          )
    ]

-- the depths of a tree, one behind the other
pub record IsFlat (t : TreeValue) : Type 0 where
  pub granted : length (flat t.granted) ≡ domain_count t.levels
  pub confirmed : length (flat t.confirmed) ≡ domain_count t.levels
  pub rows : rows_of (level_sizes t.levels) (flat t.granted) ≡ t.granted
  pub sure_rows : rows_of (level_sizes t.levels) (flat t.confirmed) ≡ t.confirmed

pub is_flat : (t : TreeValue) → IsDomainTree t → IsFlat t
is_flat t v = record {
  granted = flat_long t.granted ∙ ap (λ ns. sum ns) v.granted;
  confirmed = flat_long t.confirmed ∙ ap (λ ns. sum ns) v.confirmed;
  rows = ap (λ ns. rows_of ns (flat t.granted)) (sym v.granted) ∙ rows_back t.granted;
  sure_rows = ap (λ ns. rows_of ns (flat t.confirmed)) (sym v.confirmed) ∙ rows_back t.confirmed;
}

front : (t : TreeValue) → IsDomainTree t
    → take (domain_count t.levels) (flat t.granted ++ flat t.confirmed) ≡ flat t.granted
front t v =
    ap (λ n. take n (flat t.granted ++ flat t.confirmed)) (sym (is_flat t v).granted)
    ∙ take-append_seam (flat t.granted) (flat t.confirmed)

back : (t : TreeValue) → IsDomainTree t
    → drop (domain_count t.levels) (flat t.granted ++ flat t.confirmed) ≡ flat t.confirmed
back t v =
    ap (λ n. drop n (flat t.granted ++ flat t.confirmed)) (sym (is_flat t v).granted)
    ∙ drop-append_seam (flat t.granted) (flat t.confirmed)

pub many_depths : (t : TreeValue) → IsDomainTree t
    → length (depth_words t) ≡ 2 * domain_count t.levels
unfolding depth_words
many_depths t v =
    length-append (flat t.granted) (flat t.confirmed)
    ∙ omega (arith, (is_flat t v).granted, (is_flat t v).confirmed)

all_nested : (t : TreeValue) → IsDomainTree t → are_nested t.levels t.granted ≡ true
all_nested t v =
    all_range (is_nested t.levels t.granted) 0 (size_below t.levels) (λ c _ i.
    all_range (is_nested_at t.levels t.granted c) 0 (length t.levels) (λ l _ h.
    le-leb _ _ (v.nested c l (omega (arith, i)) (omega (arith, h)))))

-- the words of a tree's depths are such as are loaded
pub depths_good : (t : TreeValue) → IsDomainTree t → are_depths t.levels (depth_words t) ≡ true
unfolding depth_words
depths_good t v =
    let is = is_flat t v in
    let lengths : map length t.confirmed ≡ map length t.granted = v.confirmed ∙ sym v.granted in
    and_from _ _
    (eq-eqb _ _ (length-append (flat t.granted) (flat t.confirmed)
    ∙ omega (arith, is.granted, is.confirmed)))
    (rw (front t v, back t v)
    (and_from _ _ (flat_low t.granted 3 v.deepest)
    (and_from _ _
    (all_range (λ k. nat_le (get_or (flat t.confirmed) k 0) (get_or (flat t.granted) k 0)) 0
    (length (flat t.granted)) (λ k _ i. le-leb _ _
    (flat_below t.confirmed t.granted lengths v.sure k)))
    (ap (λ rows. are_nested t.levels rows) is.rows ∙ all_nested t v))))

-- trees of the same levels with the same words have the same depths
pub depths_told : (t u : TreeValue) → IsDomainTree t → IsDomainTree u → t.levels ≡ u.levels
    → depth_words t ≡ depth_words u → (t.granted ≡ u.granted) × (t.confirmed ≡ u.confirmed)
unfolding depth_words
depths_told t u v w l e =
    let granted : flat t.granted ≡ flat u.granted =
    sym (front t v)
    ∙ ap (λ ls. take (domain_count ls) (flat t.granted ++ flat t.confirmed)) l
    ∙ ap (λ xs. take (domain_count u.levels) xs) e
    ∙ front u w in
    let confirmed : flat t.confirmed ≡ flat u.confirmed =
    sym (back t v)
    ∙ ap (λ ls. drop (domain_count ls) (flat t.granted ++ flat t.confirmed)) l
    ∙ ap (λ xs. drop (domain_count u.levels) xs) e
    ∙ back u w in (
      sym (is_flat t v).rows
          ∙ ap (λ ls. rows_of (level_sizes ls) (flat t.granted)) l
          ∙ ap (λ xs. rows_of (level_sizes u.levels) xs) granted
          ∙ (is_flat u w).rows,
      sym (is_flat t v).sure_rows
          ∙ ap (λ ls. rows_of (level_sizes ls) (flat t.confirmed)) l
          ∙ ap (λ xs. rows_of (level_sizes u.levels) xs) confirmed
          ∙ (is_flat u w).sure_rows,
    )

-- what cores of a tree do
pub activities : (t : TreeValue) → IsDomainTree t → AreActivities t.cores
activities t v k d i =
    subst (λ (c : CoreState). IsActivity c.activity) (get_or_default t.cores k never_started d i)
    (v.asks k)

-- such trees with the same cores are the same
pub same_tree : (t u : TreeValue) → IsDomainTree t → IsDomainTree u → t.levels ≡ u.levels
    → t.cores ≡ u.cores → depth_words t ≡ depth_words u → t ≡ u
same_tree t u v w l c e =
    let both = depths_told t u v w l e in
    rw (l, c, both.0, both.1) refl

-- the depths are written, and then those that are confirmed
pub all_saved : (t : TreeValue) (gs cs : List (List ℕ)) (start n : ℕ) (w v u : List ℕ)
    → IsDomainTree t → gs ≡ t.granted → cs ≡ t.confirmed → n ≡ domain_count t.levels
    → take (start + length (flat gs)) v ≡ take start w ++ flat gs
    → take (start + n + length (flat cs)) u ≡ take (start + n) v ++ flat cs
    → take (start + 2 * domain_count t.levels) u ≡ take start w ++ depth_words t
unfolding depth_words
all_saved t gs cs start n w v u valid g c count first rest =
    let is = is_flat t valid in
    let many : length (flat gs) ≡ n = ap (λ rows. length (flat rows)) g ∙ is.granted ∙ sym count in
    let sure : length (flat cs) ≡ n =
    ap (λ rows. length (flat rows)) c ∙ is.confirmed ∙ sym count in
    let all : start + 2 * domain_count t.levels ≡ start + n + length (flat cs) =
    omega (arith, count, sure) in
    ap (λ k. take k u) all
    ∙ rest
    ∙ ap (λ k. take (start + k) v ++ flat cs) (sym many)
    ∙ ap (λ xs. xs ++ flat cs) first
    ∙ append_assoc (take start w) (flat gs) (flat cs)
    ∙ ap (λ xs. take start w ++ xs)
    (ap (λ rows. flat rows ++ flat cs) g ∙ ap (λ rows. flat t.granted ++ flat rows) c)

-- no confirmed depth is above power-down
pub sure_low : (levels : List (List ℕ)) (gs cs : List ℕ) (k d : ℕ) → IsLoaded levels gs cs
    → k < length cs → get_or cs k d ≤ 3
sure_low levels gs cs k d is h = omega (arith, is.low k, is.sure k, get_or_default cs k d 0 h)
