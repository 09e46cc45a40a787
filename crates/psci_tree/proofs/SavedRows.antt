-- Rows of depths as one list of words, and what is tested of such words.
use Rattle.std.proofs.Common.{◌≡◌, ℕ, zero, suc, ◌+◌, ◌<◌, ◌≤◌, Bool, true, List, [], ◌∷◌}
use Rattle.std.proofs.Common.{◌++◌, length, map, take, drop, get_or}
use Rattle.std.proofs.Common.{sum, flat_map, refl, ap, sym, ◌∙◌}
use Rattle.std.proofs.Common.{arith, inl, inr, set, subst}
use Rattle.std.specs.List.{list_all, range_with_len}
use Rattle.std.proofs.Math.Seq.{drop-append_seam, take-append_seam}
use Rattle.std.proofs.lemmas.Bool.{and_from, and_parts, cases_lt}
use Rattle.std.proofs.lemmas.List.{get_or-drop, get_or-take}
use Rattle.std.proofs.lemmas.List.{get_or_past, length-append, length-drop}
use Rattle.std.proofs.lemmas.List.{append-nil, drop_more, length-take, length-take-le}
use Rattle.std.proofs.lemmas.List.{take-append-drop, take_more}
use Rattle.std.proofs.lemmas.List.Concat.{flat_map-append, flat_map-cons}
use Rattle.std.proofs.lemmas.List.Sums.{sum_by-append, sum_by-cons}
use Rattle.psci_tree.specs.Saved.{rows_of}

-- Rows ---------------------------------------------------------------------------------------

abbrev pub flat : List (List ℕ) → List ℕ
flat rows = flat_map (λ row. row) rows

pub sum_rows : (n : ℕ) (ns : List ℕ) → sum (n ∷ ns) ≡ n + sum ns
sum_rows n ns = sum_by-cons (λ x. x) n ns

flat_cons : (row : List ℕ) (rows : List (List ℕ))
    → length (flat (row ∷ rows)) ≡ length row + length (flat rows)
flat_cons row rows =
    ap (λ xs. length xs) (flat_map-cons (λ r. r) row rows) ∙ length-append row (flat rows)

-- one behind the other the rows are the words
pub rows_flat : (ns ws : List ℕ) → length ws ≡ sum ns → flat (rows_of ns ws) ≡ ws
rows_flat [] [] e = refl
rows_flat [] (w ∷ ws) e = absurd (omega (arith, e))
rows_flat (n ∷ ns) ws e =
    flat_map-cons (λ row. row) (take n ws) (rows_of ns (drop n ws))
    ∙ ap (λ xs. take n ws ++ xs)
    (rows_flat ns (drop n ws) (omega (arith, length-drop n ws, e, sum_rows n ns)))
    ∙ take-append-drop n ws

-- and the words of rows are those rows
pub rows_back : (rows : List (List ℕ)) → rows_of (map length rows) (flat rows) ≡ rows
rows_back [] = refl
rows_back (row ∷ rows) =
    ap (λ ws. rows_of (length row ∷ map length rows) ws) (flat_map-cons (λ r. r) row rows)
    ∙ ap (λ r. r ∷ rows_of (map length rows) (drop (length row) (row ++ flat rows)))
    (take-append_seam row (flat rows))
    ∙ ap (λ rs. row ∷ rs)
    (ap (λ ws. rows_of (map length rows) ws) (drop-append_seam row (flat rows))
    ∙ rows_back rows)

pub rows_long : (ns ws : List ℕ) → length ws ≡ sum ns → map length (rows_of ns ws) ≡ ns
rows_long [] ws e = refl
rows_long (n ∷ ns) ws e =
    ap (λ k. k ∷ map length (rows_of ns (drop n ws)))
    (length-take-le n ws (omega (arith, e, sum_rows n ns)))
    ∙ ap (λ ks. n ∷ ks)
    (rows_long ns (drop n ws) (omega (arith, length-drop n ws, e, sum_rows n ns)))

-- so many words stand before the rows from one on
pub flat_room : (rows : List (List ℕ)) (k : ℕ) → k < length rows
    → length (flat (take k rows)) + length (get_or rows k []) ≤ length (flat rows)
flat_room [] k h = absurd (omega (arith, h))
flat_room (row ∷ rows) zero h =
    omega (arith, flat_cons row rows)
flat_room (row ∷ rows) (suc k) h =
    omega (
      arith,
      flat_cons row rows,
      flat_cons row (take k rows),
      flat_room rows k (omega (arith, h)),
    )

-- with one row more
pub flat_more : (rows : List (List ℕ)) (k : ℕ) → k < length rows
    → flat (take (k + 1) rows) ≡ flat (take k rows) ++ get_or rows k []
flat_more rows k h =
    ap flat (take_more rows k [] h)
    ∙ flat_map-append (λ row. row) (take k rows) (get_or rows k [] ∷ [])
    ∙ ap (λ xs. flat (take k rows) ++ xs)
    (flat_map-cons (λ row. row) (get_or rows k []) [] ∙ append-nil (get_or rows k []))

pub sum_more : (ns : List ℕ) (k : ℕ) → k < length ns
    → sum (take (k + 1) ns) ≡ sum (take k ns) + get_or ns k 0
sum_more ns k h =
    ap (λ xs. sum xs) (take_more ns k 0 h)
    ∙ sum_by-append (λ x. x) (take k ns) (get_or ns k 0 ∷ [])
    ∙ ap (λ n. sum (take k ns) + n) (sum_rows (get_or ns k 0) [] ∙ omega arith)

pub sum_left : (ns : List ℕ) (k : ℕ) → k < length ns
    → sum (drop k ns) ≡ get_or ns k 0 + sum (drop (k + 1) ns)
sum_left ns k h =
    ap (λ xs. sum xs) (drop_more ns k 0 h) ∙ sum_rows (get_or ns k 0) (drop (k + 1) ns)

-- a place of a row lies among all
pub place_inside : (ns : List ℕ) (l p : ℕ) → p < get_or ns l 0 → sum (take l ns) + p < sum ns
place_inside [] l p h = absurd (omega (arith, h))
place_inside (n ∷ ns) zero p h = omega (arith, h, sum_rows n ns)
place_inside (n ∷ ns) (suc l) p h =
    omega (arith, sum_rows n ns, sum_rows n (take l ns), place_inside ns l p h)

pub set_same : (ns : List ℕ) (k n : ℕ) → get_or ns k 0 ≡ n → k < length ns → set ns k n ≡ ns
set_same [] k n e h = refl
set_same (m ∷ ns) zero n e h = ap (λ x. x ∷ ns) (sym e)
set_same (m ∷ ns) (suc k) n e h = ap (λ xs. m ∷ xs) (set_same ns k n e (omega (arith, h)))

pub flat_long : (rows : List (List ℕ)) → length (flat rows) ≡ sum (map length rows)
flat_long [] = refl
flat_long (row ∷ rows) =
    ap (λ xs. length xs) (flat_map-cons (λ r. r) row rows)
    ∙ length-append row (flat rows)
    ∙ ap (λ k. length row + k) (flat_long rows)
    ∙ sym (sum_rows (length row) (map length rows))

-- the word at a level and place
pub row_word : (ns ws : List ℕ) (l p : ℕ) → p < get_or ns l 0
    → get_or (get_or (rows_of ns ws) l []) p 0 ≡ get_or ws (sum (take l ns) + p) 0
row_word [] ws l p h = absurd (omega (arith, h))
row_word (n ∷ ns) ws zero p h =
    get_or-take n ws p 0 h ∙ ap (λ k. get_or ws k 0) (omega arith)
row_word (n ∷ ns) ws (suc l) p h =
    row_word ns (drop n ws) l p h
    ∙ get_or-drop n ws (sum (take l ns) + p) 0
    ∙ ap (λ k. get_or ws k 0) (omega (arith, sum_rows n (take l ns)))

row_end : (n : ℕ) (ws : List ℕ) (p : ℕ) → n ≤ p → get_or (take n ws) p 0 ≡ 0
row_end n ws p h = get_or_past (take n ws) p 0 (omega (arith, h, length-take n ws))

-- where no word is above another list's, no depth is
pub rows_below : (ns ws vs : List ℕ) (l p : ℕ) → ((k : ℕ) → get_or ws k 0 ≤ get_or vs k 0)
    → get_or (get_or (rows_of ns ws) l []) p 0 ≤ get_or (get_or (rows_of ns vs) l []) p 0
rows_below [] ws vs l p h = omega arith
rows_below (n ∷ ns) ws vs zero p h = elim (cases_lt p n) [
  | inl i ↦ omega (arith, h p, get_or-take n ws p 0 i, get_or-take n vs p 0 i)
  | inr i ↦ omega (arith, row_end n ws p i)
]
rows_below (n ∷ ns) ws vs (suc l) p h =
    rows_below ns (drop n ws) (drop n vs) l p
    (λ k. omega (arith, h (n + k), get_or-drop n ws k 0, get_or-drop n vs k 0))

-- where no word is above a bound, no depth is
pub rows_low : (ns ws : List ℕ) (most l p : ℕ) → ((k : ℕ) → get_or ws k 0 ≤ most)
    → get_or (get_or (rows_of ns ws) l []) p 0 ≤ most
rows_low [] ws most l p h = omega arith
rows_low (n ∷ ns) ws most zero p h = elim (cases_lt p n) [
  | inl i ↦ omega (arith, h p, get_or-take n ws p 0 i)
  | inr i ↦ omega (arith, row_end n ws p i)
]
rows_low (n ∷ ns) ws most (suc l) p h =
    rows_low ns (drop n ws) most l p (λ k. omega (arith, h (n + k), get_or-drop n ws k 0))

-- Tests of the numbers of a range ------------------------------------------------------------

-- each passes
pub at_range : (p : ℕ → Bool) (a n k : ℕ) → list_all p (range_with_len a n) ≡ true → a ≤ k
    → k < a + n → p k ≡ true
at_range p a zero k h low high = absurd (omega (arith, low, high))
at_range p a (suc n) k h low high =
    let both : (p a ≡ true) × (list_all p (range_with_len (a + 1) n) ≡ true) =
    and_parts _ _ h in
    elim (cases_lt a k) [
      | inl i ↦ at_range p (a + 1) n k both.1 (omega (arith, i)) (omega (arith, high))
      | inr i ↦
          let same : a ≡ k = omega (arith, low, i) in
          subst (λ j. p j ≡ true) same both.0
    ]

-- all pass
pub all_range : (p : ℕ → Bool) (a n : ℕ) → ((k : ℕ) → a ≤ k → k < a + n → p k ≡ true)
    → list_all p (range_with_len a n) ≡ true
all_range p a zero h = refl
all_range p a (suc n) h =
    and_from _ _ (h a (omega arith) (omega arith))
    (all_range p (a + 1) n (λ k low high. h k (omega (arith, low)) (omega (arith, high))))
