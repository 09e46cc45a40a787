-- The words that a power controller is saved as say what it keeps.
use Rattle.std.proofs.Common.{◌≡◌, ℕ, zero, suc, ◌+◌, ◌*◌, ◌/◌, ◌%◌, ◌<◌, ◌≤◌, Bool}
use Rattle.std.proofs.Common.{true, cond, List, [], ◌∷◌, ◌++◌, length, map, take, drop}
use Rattle.std.proofs.Common.{get_or, sum, flat_map, Option, Some, None, refl, ap, sym, ◌∙◌}
use Rattle.std.proofs.Common.{arith, inl, inr}
use Rattle.std.specs.Prelude.{nat_le}
use Rattle.std.specs.List.{list_all}
use Rattle.std.proofs.Math.Seq.{drop-append_seam, take-append_seam}
use Rattle.std.proofs.lemmas.Bool.{and_from, and_parts, cases_eq, eq-eqb, le-leb}
use Rattle.std.proofs.lemmas.Bool.{leb-true}
use Rattle.std.proofs.lemmas.Bool.{ne_eqb}
use Rattle.std.proofs.lemmas.List.{length-append, length-map}
use Rattle.std.proofs.lemmas.List.Concat.{flat_map-cons}
use Rattle.std.proofs.lemmas.List.Folds.{list_all-append}
use Rattle.std.proofs.lemmas.List.Sums.{sum_by-cons}
use Rattle.std.proofs.lemmas.Option.{none-some, same_Some}
use Rattle.psci_board.specs.Board.{size_below}
use Rattle.psci_messages.specs.declared.start.Cause.{Cause}
use Rattle.psci_messages.specs.declared.start.Cause.TheVariants as causes
use Rattle.psci_ctl.specs.declared.level.DomainRow.{DomainRow}
use Rattle.psci_ctl.specs.declared.row.CoreRow.{CoreRow}
use Rattle.psci_ctl.specs.Rows.{core_row, depth_in, off_domain}
use Rattle.psci_ctl.specs.Saved.{cause_number, cause_of, core_of, core_word, depths}
use Rattle.psci_ctl.specs.Saved.{level_sizes, life_of, life_word}

-- One word -----------------------------------------------------------------------------------

cause_few : (c : Cause) → cause_number c < 4
cause_few causes.Boot = omega arith
cause_few causes.On = omega arith
cause_few causes.Wake = omega arith
cause_few causes.Reset = omega arith

cause_back : (c : Cause) → cause_of (cause_number c) ≡ c
cause_back causes.Boot = refl
cause_back causes.On = refl
cause_back causes.Wake = refl
cause_back causes.Reset = refl

number_back : (n : ℕ) → n < 4 → cause_number (cause_of n) ≡ n
number_back zero h = refl
number_back (suc zero) h = refl
number_back (suc (suc zero)) h = refl
number_back (suc (suc (suc zero))) h = refl
number_back (suc (suc (suc (suc n)))) h = absurd (omega (arith, h))

starts_back : (row : CoreRow) → core_word row / 4 ≡ row.starts
starts_back row = omega (arith, cause_few row.cause)

rest_back : (row : CoreRow) → core_word row % 4 ≡ cause_number row.cause
rest_back row = omega (arith, cause_few row.cause)

core_back : (row : CoreRow) → core_of (core_word row) ≡ row
core_back row =
    ap (λ s. record { starts = s; cause = cause_of (core_word row % 4) }) (starts_back row)
    ∙ ap (λ c. record { starts = row.starts; cause = c })
    (ap cause_of (rest_back row) ∙ cause_back row.cause)

word_back : (w : ℕ) → core_word (core_of w) ≡ w
word_back w =
    ap (λ n. w / 4 * 4 + n) (number_back (w % 4) (omega arith)) ∙ omega arith

pub life_back : (w : ℕ) → life_word (life_of w) ≡ w
life_back w = elim (cases_eq w 0) [
  | inl e ↦ rw (eq-eqb w 0 e) (sym e)
  | inr e ↦ rw (ne_eqb w 0 e) refl
]

pub some_life : (w l : ℕ) → life_of w ≡ Some l → (w ≡ l) × (0 < w)
some_life w l e = elim (cases_eq w 0) [
  | inl z ↦ absurd (none-some l (sym (ap (λ t. cond t None (Some w)) (eq-eqb w 0 z)) ∙ e))
  | inr z ↦ (
    same_Some w l (sym (ap (λ t. cond t None (Some w)) (ne_eqb w 0 z)) ∙ e),
    omega (arith, z),
  )
]

pub no_life : (w : ℕ) → life_of w ≡ None → w ≡ 0
no_life w e = elim (cases_eq w 0) [
  | inl z ↦ z
  | inr z ↦ absurd (none-some w (sym e ∙ ap (λ t. cond t None (Some w)) (ne_eqb w 0 z)))
]

pub same_life : (o p : Option ℕ) → ((l : ℕ) → o ≡ Some l → 0 < l) → ((l : ℕ) → p ≡ Some l → 0 < l)
    → life_word o ≡ life_word p → o ≡ p
same_life None None f g e = refl
same_life None (Some l) f g e = absurd (omega (arith, g l refl, e))
same_life (Some l) None f g e = absurd (omega (arith, f l refl, e))
same_life (Some l) (Some m) f g e = ap (λ n. Some n) e

-- Cores --------------------------------------------------------------------------------------

pub rows_back : (cs : List CoreRow) → map core_of (map core_word cs) ≡ cs
rows_back [] = refl
rows_back (c ∷ cs) = ap (λ row. row ∷ map core_of (map core_word cs)) (core_back c)
    ∙ ap (λ rows. c ∷ rows) (rows_back cs)

pub words_back : (ws : List ℕ) → map core_word (map core_of ws) ≡ ws
words_back [] = refl
words_back (w ∷ ws) = ap (λ v. v ∷ map core_word (map core_of ws)) (word_back w)
    ∙ ap (λ vs. w ∷ vs) (words_back ws)

pub few_starts : (ws : List ℕ) (most k : ℕ) → list_all (λ w. nat_le (w / 4) most) ws ≡ true
    → (core_row (map core_of ws) k).starts ≤ most
few_starts [] most k e = omega arith
few_starts (w ∷ ws) most zero e = leb-true (w / 4) most (and_parts _ _ e).0
few_starts (w ∷ ws) most (suc k) e = few_starts ws most k (and_parts _ _ e).1

pub are_few : (cs : List CoreRow) (most : ℕ) → ((k : ℕ) → (core_row cs k).starts ≤ most)
    → list_all (λ w. nat_le (w / 4) most) (map core_word cs) ≡ true
are_few [] most h = refl
are_few (c ∷ cs) most h =
    and_from _ _ (le-leb _ most (omega (arith, starts_back c, h 0)))
    (are_few cs most (λ k. h (suc k)))

pub first_starts : (ws : List ℕ) → 0 < get_or ws 0 0 / 4 → 0 < (core_row (map core_of ws) 0).starts
first_starts [] h = absurd (omega (arith, h))
first_starts (w ∷ ws) h = h

pub first_word : (cs : List CoreRow) → get_or (map core_word cs) 0 0 / 4 ≡ (core_row cs 0).starts
first_word [] = refl
first_word (c ∷ cs) = starts_back c

-- Domains ------------------------------------------------------------------------------------

abbrev pub is_depth : ℕ → Bool
is_depth d = nat_le d 3

row_deep : (ds : List DomainRow) (p : ℕ) → list_all is_depth (depths ds) ≡ true
    → (get_or ds p off_domain).depth ≤ 3
row_deep [] p e = omega arith
row_deep (d ∷ ds) zero e = leb-true d.depth 3 (and_parts _ _ e).0
row_deep (d ∷ ds) (suc p) e = row_deep ds p (and_parts _ _ e).1

first_level : (d : List DomainRow) (ds : List (List DomainRow))
    → list_all is_depth (flat_map depths (d ∷ ds)) ≡ true
    → (list_all is_depth (depths d) ≡ true) × (list_all is_depth (flat_map depths ds) ≡ true)
first_level d ds e =
    and_parts _ _ (sym (list_all-append is_depth (depths d) (flat_map depths ds))
    ∙ ap (λ xs. list_all is_depth xs) (sym (flat_map-cons depths d ds)) ∙ e)

pub all_deep : (ds : List (List DomainRow)) (l p : ℕ)
    → list_all is_depth (flat_map depths ds) ≡ true → depth_in ds l p ≤ 3
all_deep [] l p e = omega arith
all_deep (d ∷ ds) zero p e = row_deep d p (first_level d ds e).0
all_deep (d ∷ ds) (suc l) p e = all_deep ds l p (first_level d ds e).1

row_depths : (ds : List DomainRow) → ((p : ℕ) → (get_or ds p off_domain).depth ≤ 3)
    → list_all is_depth (depths ds) ≡ true
row_depths [] h = refl
row_depths (d ∷ ds) h = and_from _ _ (le-leb d.depth 3 (h 0)) (row_depths ds (λ p. h (suc p)))

pub all_depths : (ds : List (List DomainRow)) → ((l p : ℕ) → depth_in ds l p ≤ 3)
    → list_all is_depth (flat_map depths ds) ≡ true
all_depths [] h = refl
all_depths (d ∷ ds) h =
    ap (λ xs. list_all is_depth xs) (flat_map-cons depths d ds)
    ∙ list_all-append is_depth (depths d) (flat_map depths ds)
    ∙ and_from _ _ (row_depths d (h 0)) (all_depths ds (λ l. h (suc l)))

same_row : (ds es : List DomainRow) (p : ℕ) → depths ds ≡ depths es
    → (get_or ds p off_domain).depth ≡ (get_or es p off_domain).depth
same_row ds es p e = sym (depth_at ds p) ∙ ap (λ xs. get_or xs p 3) e ∙ depth_at es p
  where
    depth_at : (fs : List DomainRow) (q : ℕ)
        → get_or (depths fs) q 3 ≡ (get_or fs q off_domain).depth
    depth_at [] q = refl
    depth_at (f ∷ fs) zero = refl
    depth_at (f ∷ fs) (suc q) = depth_at fs q

first_same : (d f : List DomainRow) (ds es : List (List DomainRow)) → length d ≡ length f
    → flat_map depths (d ∷ ds) ≡ flat_map depths (f ∷ es)
    → (depths d ≡ depths f) × (flat_map depths ds ≡ flat_map depths es)
first_same d f ds es n e =
    let both : depths d ++ flat_map depths ds ≡ depths f ++ flat_map depths es =
    sym (flat_map-cons depths d ds) ∙ e ∙ flat_map-cons depths f es in
    let long : length (depths d) ≡ length (depths f) =
    length-map d (λ (r : DomainRow). r.depth) ∙ n
    ∙ sym (length-map f (λ (r : DomainRow). r.depth)) in (
      sym (take-append_seam (depths d) (flat_map depths ds))
          ∙ ap (λ xs. take (length (depths d)) xs) both
          ∙ ap (λ k. take k (depths f ++ flat_map depths es)) long
          ∙ take-append_seam (depths f) (flat_map depths es),
      sym (drop-append_seam (depths d) (flat_map depths ds))
          ∙ ap (λ xs. drop (length (depths d)) xs) both
          ∙ ap (λ k. drop k (depths f ++ flat_map depths es)) long
          ∙ drop-append_seam (depths f) (flat_map depths es),
    )

-- levels of as many domains each, with the same depths in a row
pub same_depths : (ds es : List (List DomainRow)) (l p : ℕ) → length ds ≡ length es
    → ((k : ℕ) → k < length ds → length (get_or ds k []) ≡ length (get_or es k []))
    → flat_map depths ds ≡ flat_map depths es → depth_in ds l p ≡ depth_in es l p
same_depths [] [] l p n shape e = refl
same_depths [] (f ∷ es) l p n shape e = absurd (omega (arith, n))
same_depths (d ∷ ds) [] l p n shape e = absurd (omega (arith, n))
same_depths (d ∷ ds) (f ∷ es) zero p n shape e =
    same_row d f p (first_same d f ds es (shape 0 (omega arith)) e).0
same_depths (d ∷ ds) (f ∷ es) (suc l) p n shape e =
    same_depths ds es l p (omega (arith, n)) (λ k h. shape (suc k) (omega (arith, h)))
    (first_same d f ds es (shape 0 (omega arith)) e).1

pub many_depths : (levels : List (List ℕ)) (ds : List (List DomainRow))
    → length ds ≡ length levels + 1
    → ((k : ℕ) → k ≤ length levels → length (get_or ds k []) ≡ size_below (drop k levels))
    → length (flat_map depths ds) ≡ sum (level_sizes levels)
many_depths levels [] n shape = absurd (omega (arith, n))
many_depths [] (d ∷ []) n shape =
    ap (λ xs. length xs) (flat_map-cons depths d [])
    ∙ length-append (depths d) []
    ∙ omega (arith, length-map d (λ (r : DomainRow). r.depth), shape 0 (omega arith))
many_depths [] (d ∷ f ∷ ds) n shape = absurd (omega (arith, n))
many_depths (w ∷ ws) (d ∷ ds) n shape =
    ap (λ xs. length xs) (flat_map-cons depths d ds)
    ∙ length-append (depths d) (flat_map depths ds)
    ∙ ap (λ k. k + length (flat_map depths ds)) (length-map d _ ∙ shape 0 (omega arith))
    ∙ ap (λ k. size_below (w ∷ ws) + k)
    (many_depths ws ds (omega (arith, n)) (λ k h. shape (suc k) (omega (arith, h))))
    ∙ sym (sum_by-cons (λ x. x) (size_below (w ∷ ws)) (level_sizes ws))
