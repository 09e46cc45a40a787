-- What is kept of a tree decides what is said of it, and is the tree where no fault is said.
use Rattle.std.specs.List.{list_all}
use Rattle.std.proofs.Common.{length-take, lit≤}
use Rattle.std.proofs.Math.Bool.{or-false, or-true}
use Rattle.std.proofs.lemmas.List.{append-nil, map-append}
use Rattle.std.proofs.lemmas.List.Concat.{length-flat_map}
use Rattle.std.proofs.lemmas.List.Recursion.{or_push}
use Rattle.std.proofs.lemmas.List.Sums.{AllPass-from_list_all, sum-map, sum_by-append}
use Rattle.psci_board.specs.Summary.{no_members, NumbersSummaryValue, RangesSummaryValue}
use Rattle.psci_board.specs.Summary.{with_member, with_members, with_number, with_numbers}
use Rattle.psci_board.specs.Summary.{with_range, with_ranges, with_size}
use Rattle.psci_board.specs.SummaryVerdict.{summary_levels}
use Rattle.psci_board.specs.Verdict.{is_too_wide, is_uneven, levels_of}
use Rattle.psci_board.proofs.Terms.{◌&&◌, ◌++◌, ◌+◌, ◌<◌, ◌||◌, ◌∙◌, ◌∷◌, ◌≡◌, ◌≤◌, []}
use Rattle.psci_board.proofs.Terms.{AddressRange, AllPass, ap, append_assoc, arith, Bool}
use Rattle.psci_board.proofs.Terms.{Cluster, clusters, common_steps, cond, false, flat_map}
use Rattle.psci_board.proofs.Terms.{flat_map-append, Group, has_bad_range, is_group}
use Rattle.psci_board.proofs.Terms.{is_out_of_width, is_width, IsTree, length, length-append}
use Rattle.psci_board.proofs.Terms.{length-map, List, list_any, lit<, map, Member, Members, min}
use Rattle.psci_board.proofs.Terms.{MOST_CORES, nat_le, nat_lt, nat_tests, not, numbers_in, One}
use Rattle.psci_board.proofs.Terms.{or_parts, range_of, refl, suc, sum, sum_by-cons, sym, take}
use Rattle.psci_board.proofs.Terms.{take_all, tree_summary, TreeSummaryValue, TreeText, true}
use Rattle.psci_board.proofs.Terms.{zero, ℕ}

-- What is kept of numbers, of members and of ranges, said at once of the whole list ---------------

-- the first of the first, and more, are the first of all
pub take_more : {A : Type 0} (n : ℕ) (xs ys : List A) → take n (take n xs ++ ys) ≡ take n (xs ++ ys)
take_more zero xs ys = refl
take_more (suc n) [] ys = refl
take_more (suc n) (x ∷ xs) ys = ap (λ l. x ∷ l) (take_more n xs ys)

-- Numbers ------------------------------------------------------------------------------------

abbrev pub capped : ℕ → ℕ
capped n = min n 17

abbrev pub kept_numbers : List ℕ → NumbersSummaryValue
kept_numbers ns = record {
  first = take MOST_CORES (map capped ns);
  total = min (sum ns) (MOST_CORES + 1);
  bad_width = list_any is_out_of_width ns;
}

any_more : {A : Type 0} (p : A → Bool) (xs : List A) (x : A)
    → list_any p (xs ++ x ∷ []) ≡ (list_any p xs || p x)
any_more p xs x = or_push (list_any p) p refl (λ y ys. refl) xs x

pub kept_number : (ns : List ℕ) (n : ℕ)
    → with_number (kept_numbers ns) n ≡ kept_numbers (ns ++ n ∷ [])
kept_number ns n =
    let first = take_more MOST_CORES (map capped ns) (capped n ∷ [])
    ∙ ap (take MOST_CORES) (sym (map-append capped ns (n ∷ []))) in
    let total : min (min (sum ns) (MOST_CORES + 1) + n) (MOST_CORES + 1)
    ≡ min (sum (ns ++ n ∷ [])) (MOST_CORES + 1) =
    omega (arith, sum_by-append (λ x. x) ns (n ∷ [])) in
    let bad_width = sym (any_more is_out_of_width ns n) in
    λ i. record { first = first i; total = total i; bad_width = bad_width i }

kept_more : (ms ns : List ℕ) → with_numbers (kept_numbers ms) ns ≡ kept_numbers (ms ++ ns)
unfolding with_numbers
kept_more ms [] = ap kept_numbers (sym (append-nil ms))
kept_more ms (n ∷ ns) =
    ap (λ s. with_numbers s ns) (kept_number ms n) ∙ kept_more (ms ++ n ∷ []) ns
    ∙ ap kept_numbers (append_assoc ms (n ∷ []) ns)

-- Members ------------------------------------------------------------------------------------

abbrev pub size : Member → ℕ
size m = length (numbers_in m)

abbrev pub is_number_alone : Member → Bool
is_number_alone m = not (is_group m)

abbrev pub kept_members : List Member → TreeSummaryValue
kept_members ms = record {
  numbers = kept_numbers (flat_map numbers_in ms);
  sizes = take 16 (map (λ m. capped (size m)) ms);
  bad_width = nat_lt 16 (length ms) || list_any (λ m. is_out_of_width (size m)) ms;
  has_cluster = list_any is_number_alone ms;
  has_group = list_any is_group ms;
}

-- too many before, or now, or one that is bad
or_more : (lt any le bad : Bool) → (lt ≡ true → le ≡ true)
    → (((lt || any) || le) || bad) ≡ (le || (any || bad))
or_more true any true bad h = refl
or_more true any false bad h = cc (h refl)
or_more false true true bad h = refl
or_more false true false bad h = refl
or_more false false true bad h = refl
or_more false false false bad h = refl

pub same_tests : (a b : Bool) → (a ≡ true → b ≡ true) → (b ≡ true → a ≡ true) → a ≡ b
same_tests true b f g = sym (f refl)
same_tests false true f g = g refl
same_tests false false f g = refl

full_then_more : (n l k m : ℕ) → k ≡ min n l → m ≡ l + 1 → nat_le n k ≡ nat_lt n m
full_then_more n l k m e f = grind (arith, nat_tests, same_tests)

over_then_full : (n l k : ℕ) → k ≡ min n l → nat_lt n l ≡ true → nat_le n k ≡ true
over_then_full n l k e h = grind (arith, nat_tests)

-- one more item, where n are allowed and the first n are kept
pub one_more : {A : Type 0} (n : ℕ) (is_bad : A → Bool) (xs : List A) (k : ℕ) (x : A)
    → k ≡ min n (length xs)
    → (((nat_lt n (length xs) || list_any is_bad xs) || nat_le n k) || is_bad x)
    ≡ (nat_lt n (length (xs ++ x ∷ [])) || list_any is_bad (xs ++ x ∷ []))
one_more n is_bad xs k x e =
    grind (arith, nat_tests, length-append, or_more, over_then_full, full_then_more, any_more)

kept_sizes : (ms : List Member) (m : Member)
    → take 16 (take 16 (map (λ m. capped (size m)) ms) ++ capped (size m) ∷ [])
    ≡ take 16 (map (λ m. capped (size m)) (ms ++ m ∷ []))
kept_sizes ms m = grind (arith, nat_tests, take_more, capped, size, map-append)

pub how_many : {A B : Type 0} (n : ℕ) (f : A → B) (xs : List A)
    → length (take n (map f xs)) ≡ min n (length xs)
how_many n f xs = length-take n (map f xs) ∙ ap (min n) (length-map xs f)

kept_flat : (ms : List Member) (m : Member)
    → with_numbers (kept_numbers (flat_map numbers_in ms)) (numbers_in m)
    ≡ kept_numbers (flat_map numbers_in (ms ++ m ∷ []))
kept_flat ms m = grind (arith, nat_tests, kept_more, flat_map-append, append-nil)

kept_parts : (ms : List Member) (m : Member) (has_cluster has_group : Bool)
    → has_cluster ≡ (list_any is_number_alone ms || is_number_alone m)
    → has_group ≡ (list_any is_group ms || is_group m)
    → record (with_size (kept_members ms) (size m)) {
      numbers = with_numbers (kept_numbers (flat_map numbers_in ms)) (numbers_in m);
      has_cluster = has_cluster;
      has_group = has_group;
    } ≡ kept_members (ms ++ m ∷ [])
kept_parts ms m has_cluster has_group p q =
    let numbers = kept_flat ms m in
    let sizes = kept_sizes ms m in
    let bad = one_more 16 (λ m. is_out_of_width (size m)) ms _ m
    (how_many 16 (λ m. capped (size m)) ms) in
    let cluster = p ∙ sym (any_more is_number_alone ms m) in
    let group = q ∙ sym (any_more is_group ms m) in
    λ i. record {
      numbers = numbers i;
      sizes = sizes i;
      bad_width = bad i;
      has_cluster = cluster i;
      has_group = group i;
    }

kept_member : (ms : List Member) (m : Member)
    → with_member (kept_members ms) m ≡ kept_members (ms ++ m ∷ [])
unfolding with_numbers
kept_member ms (Cluster n) =
    kept_parts ms (Cluster n) true _ (sym (or-true _)) (sym (or-false _))
kept_member ms (Group ns) =
    kept_parts ms (Group ns) _ true (sym (or-false _)) (sym (or-true _))

pub kept_all_members : (ms ns : List Member)
    → with_members (kept_members ms) ns ≡ kept_members (ms ++ ns)
unfolding with_members
kept_all_members ms [] = ap kept_members (sym (append-nil ms))
kept_all_members ms (n ∷ ns) =
    ap (λ s. with_members s ns) (kept_member ms n) ∙ kept_all_members (ms ++ n ∷ []) ns
    ∙ ap kept_members (append_assoc ms (n ∷ []) ns)

-- Ranges -------------------------------------------------------------------------------------

abbrev pub is_empty_range : AddressRange → Bool
is_empty_range r = nat_le r.end r.start

abbrev pub kept_ranges : List AddressRange → RangesSummaryValue
kept_ranges rs = record { first = take 4 rs; faulty = has_bad_range (length rs) rs }

kept_range : (rs : List AddressRange) (r : AddressRange)
    → with_range (kept_ranges rs) r ≡ kept_ranges (rs ++ r ∷ [])
kept_range rs r = grind (arith, common_steps, take_more, one_more, is_empty_range, length-take)

pub kept_all_ranges : (rs : List AddressRange) (qs : List (List ℕ × List ℕ))
    → with_ranges (kept_ranges rs) qs ≡ kept_ranges (rs ++ map range_of qs)
unfolding with_ranges
kept_all_ranges rs [] = ap kept_ranges (sym (append-nil rs))
kept_all_ranges rs (q ∷ qs) =
    ap (λ s. with_ranges s qs) (kept_range rs (range_of q))
    ∙ kept_all_ranges (rs ++ range_of q ∷ []) qs
    ∙ ap kept_ranges (append_assoc rs (range_of q ∷ []) (map range_of qs))

-- Kept tree ---------------------------------------------------------------------------------------

-- Widths -------------------------------------------------------------------------------------

is_out : (n : ℕ) → is_out_of_width n ≡ false → (0 < n) × (n ≤ 16)
is_out n h = (grind (arith, nat_tests), grind (arith, nat_tests))

in_width : (n : ℕ) → is_out_of_width n ≡ false → is_width n ≡ true
in_width n h = let w = is_out n h in grind (arith, nat_tests)

cap_same : (n : ℕ) → is_out_of_width n ≡ false → capped n ≡ n
cap_same n h = let w = is_out n h in omega arith

all_capped : (ns : List ℕ) → list_any is_out_of_width ns ≡ false → map capped ns ≡ ns
all_capped [] h = refl
all_capped (n ∷ ns) h = grind (arith, nat_tests, or_parts, capped, cap_same, all_capped ns)

all_width : (ns : List ℕ) → list_any is_out_of_width ns ≡ false → list_all is_width ns ≡ true
all_width [] h = refl
all_width (n ∷ ns) h = grind (arith, nat_tests, or_parts, in_width, all_width ns)

pub pass_width : (ns : List ℕ) → list_any is_out_of_width ns ≡ false → AllPass is_width ns
pass_width ns h = AllPass-from_list_all is_width ns (all_width ns h)

-- no more numbers than their sum
fewer_than_sum : (ns : List ℕ) → list_any is_out_of_width ns ≡ false → length ns ≤ sum ns
fewer_than_sum [] h = omega arith
fewer_than_sum (n ∷ ns) h =
    grind (arith, common_steps, or_parts, is_out, sum_by-cons, fewer_than_sum ns)

-- sum at most, as the test says it
pub within : (most n : ℕ) → nat_lt most n ≡ false → n ≤ most
within most n h = grind (arith, nat_tests)

pub kept_whole : (ns : List ℕ) → list_any is_out_of_width ns ≡ false → sum ns ≤ MOST_CORES
    → take MOST_CORES (map capped ns) ≡ ns
kept_whole ns h few =
    rw (all_capped ns h) (take_all MOST_CORES ns (omega (arith, fewer_than_sum ns h)))

any_size : (ms : List Member)
    → list_any is_out_of_width (map size ms) ≡ list_any (λ m. is_out_of_width (size m)) ms
any_size [] = refl
any_size (m ∷ ms) = ap (λ b. is_out_of_width (size m) || b) (any_size ms)

cap_sizes : (ms : List Member) → list_any (λ m. is_out_of_width (size m)) ms ≡ false
    → map (λ m. capped (size m)) ms ≡ map size ms
cap_sizes [] h = refl
cap_sizes (m ∷ ms) h = grind (arith, nat_tests, or_parts, size, capped, cap_same, cap_sizes ms)

alone : (ms : List Member) → list_any is_group ms ≡ false
    → list_any (λ m. is_out_of_width (size m)) ms ≡ false
alone [] h = refl
alone (Cluster n ∷ ms) h = alone ms h
alone (Group ns ∷ ms) h = cc

has_cluster : (ms : List Member) → 0 < length ms → list_any is_group ms ≡ false
    → list_any is_number_alone ms ≡ true
has_cluster [] some h = absurd (omega arith)
has_cluster (Cluster n ∷ ms) some h = refl
has_cluster (Group ns ∷ ms) some h = cc

abbrev pub levels_by : Bool → List Member → List (List ℕ)
levels_by g ms =
    cond g (flat_map numbers_in ms ∷ map size ms ∷ (length ms ∷ []) ∷ [])
    (flat_map numbers_in ms ∷ (length ms ∷ []) ∷ [])

-- The tree -----------------------------------------------------------------------------------

-- a list of the grammar is not empty
abbrev pub IsFull : TreeText → Type 0
IsFull (One n) = Unit {0}
IsFull (Members ms) = 0 < length ms

abbrev pub kept_tree : TreeText → TreeSummaryValue
kept_tree (One n) = record no_members { numbers = kept_numbers (n ∷ []) }
kept_tree (Members ms) = kept_members ms

pub tree_is_kept : (t : TreeText) → tree_summary t ≡ kept_tree t
tree_is_kept (One n) = ap (λ s. record no_members { numbers = s }) (kept_number [] n)
tree_is_kept (Members ms) = kept_all_members [] ms

pub uneven_kept : (t : TreeText)
    → is_uneven t ≡ ((kept_tree t).has_group && (kept_tree t).has_cluster)
uneven_kept (One n) = refl
uneven_kept (Members ms) = refl

swapped : (a b : Bool) → (a || ((b || false) || false)) ≡ (b || a)
swapped a b = grind arith

long_list : (n : ℕ) → 0 < n → is_out_of_width n ≡ nat_lt 16 n
long_list n h = grind (arith, nat_tests)

-- what the levels above the lowest one add
wide_by : (ms : List Member) → 0 < length ms → (g : Bool) → list_any is_group ms ≡ g
    → list_any (λ w. list_any is_out_of_width w) (levels_by g ms)
    ≡ (list_any is_out_of_width (flat_map numbers_in ms)
    || (nat_lt 16 (length ms) || list_any (λ m. is_out_of_width (size m)) ms))
wide_by ms some true e = grind (arith, nat_tests, any_size, long_list, swapped)
wide_by ms some false e = grind (arith, nat_tests, alone, long_list, swapped)

pub wide_kept : (t : TreeText) → IsFull t
    → is_too_wide t ≡ ((kept_tree t).numbers.bad_width || (kept_tree t).bad_width)
wide_kept (One n) full = refl
wide_kept (Members ms) full = wide_by ms full (list_any is_group ms) refl

few_kept : (n : ℕ) → nat_lt MOST_CORES n ≡ nat_lt MOST_CORES (min n (MOST_CORES + 1))
few_kept n = grind (arith, nat_tests, same_tests)

pub total_kept : (t : TreeText)
    → nat_lt MOST_CORES (sum (clusters t)) ≡ nat_lt MOST_CORES (kept_tree t).numbers.total
total_kept (One n) = few_kept (sum (n ∷ []))
total_kept (Members ms) = few_kept (sum (flat_map numbers_in ms))

-- the parts of what is said of widths
pub record Narrow (ms : List Member) : Type 0 where
  pub flat : list_any is_out_of_width (flat_map numbers_in ms) ≡ false
  pub sizes : list_any (λ m. is_out_of_width (size m)) ms ≡ false
  pub outer : list_any is_out_of_width (length ms ∷ []) ≡ false

narrow : (ms : List Member) (g : Bool) → list_any is_group ms ≡ g
    → list_any (λ w. list_any is_out_of_width w) (levels_by g ms) ≡ false → Narrow ms
narrow ms true e h = grind (arith, nat_tests, or_parts, any_size)
narrow ms false e h = grind (arith, nat_tests, or_parts, alone)

outer_size : (ms : List Member) → Narrow ms → length ms ≤ 16
outer_size ms h = (is_out (length ms) (or_parts _ _ h.outer).0).1

member_count : (ms : List Member) → Narrow ms
    → length (take 16 (map (λ m. capped (size m)) ms)) ≡ length ms
member_count ms h = how_many 16 (λ m. capped (size m)) ms ∙ omega (arith, outer_size ms h)

whole_sizes : (ms : List Member) → Narrow ms → take 16 (map (λ m. capped (size m)) ms) ≡ map size ms
whole_sizes ms h = grind (arith, common_steps, cap_sizes, take_all, size, length-map, outer_size)

levels_kept_by : (ms : List Member) → 0 < length ms → (g : Bool) → list_any is_group ms ≡ g
    → Narrow ms
    → sum (flat_map numbers_in ms) ≤ MOST_CORES
    → summary_levels (record (kept_members ms) { has_group = g }) ≡ levels_by g ms
levels_kept_by ms some true e h few =
    grind (arith, nat_tests, kept_whole, whole_sizes, member_count)
levels_kept_by ms some false e h few =
    grind (arith, nat_tests, kept_whole, member_count, has_cluster)

pub levels_kept : (t : TreeText) → IsFull t → is_too_wide t ≡ false → sum (clusters t) ≤ MOST_CORES
    → summary_levels (kept_tree t) ≡ levels_of t
levels_kept (One n) full wide few = grind (arith, nat_tests, cap_same, or_parts)
levels_kept (Members ms) full wide few = grind (arith, nat_tests, levels_kept_by, narrow)

-- The tree of a text is a tree of nodes ---------------------------------------------------------

flat_alone : (ms : List Member) → list_any is_group ms ≡ false
    → length (flat_map numbers_in ms) ≡ length ms
flat_alone [] e = refl
flat_alone (Cluster n ∷ ms) e = omega (arith, flat_alone ms e)
flat_alone (Group ns ∷ ms) e = cc

one_level : (n : ℕ) → list_any is_out_of_width (n ∷ []) ≡ false → IsTree ((n ∷ []) ∷ [])
one_level n h = grind (arith, nat_tests, is_out, or_parts, sum_by-cons, pass_width)

tree_by : (ms : List Member) (g : Bool) → list_any is_group ms ≡ g → Narrow ms
    → sum (flat_map numbers_in ms) ≤ MOST_CORES → IsTree (levels_by g ms)
tree_by ms true e h few =
    let flat = flat_map numbers_in ms in
    let parts : length flat ≡ sum (map size ms) =
    length-flat_map numbers_in ms ∙ sym (sum-map size ms) in (
      parts,
      few,
      pass_width flat h.flat,
      (
        omega (arith, length-map ms size, sum_by-cons (λ x. x) (length ms) []),
        omega (arith, parts, fewer_than_sum flat h.flat),
        pass_width (map size ms) (any_size ms ∙ h.sizes),
        one_level (length ms) h.outer,
      ),
    )
tree_by ms false e h few = grind (arith, nat_tests, flat_alone, sum_by-cons, pass_width, one_level)

pub is_tree : (t : TreeText) → is_too_wide t ≡ false → sum (clusters t) ≤ MOST_CORES
    → IsTree (levels_of t)
is_tree (One n) wide few = one_level n (or_parts _ _ wide).0
is_tree (Members ms) wide few = grind (arith, nat_tests, tree_by, narrow)

pub heights : (t : TreeText) → (0 < length (levels_of t)) × (length (levels_of t) ≤ 3)
heights (One n) = (lit< tt, lit≤ tt)
heights (Members ms) = grind (arith, nat_tests, levels_by, lit<, lit≤)
