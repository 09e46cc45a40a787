-- A power controller after some parts of a Down were applied, and the next one.
use Rattle.std.specs.Prelude.{not, slice_get}
use Rattle.std.proofs.Common.{◌&&◌, ◌+◌, ◌<◌, ◌==◌, ◌∙◌, ◌∷◌, ◌≡◌, ◌≤◌, [], ap, arith, Bool}
use Rattle.std.proofs.Common.{cond, drop, false, get_or, inl, inr, length, List, None, Option}
use Rattle.std.proofs.Common.{refl, suc, sym, take, true, zero, ℕ}
use Rattle.std.proofs.lemmas.Bool.{cases_eq, cases_lt, eq-eqb, le-leb, ne_eqb}
use Rattle.std.proofs.lemmas.List.{drop_all, get_or_default}
use Rattle.std.proofs.lemmas.List.Sums.{prefix_len-le-length, prefix_len_is}
use Rattle.std.proofs.lemmas.Option.{slice_get-get_or}
use Rattle.psci_board.specs.Board.{BoardValue, domain_of, height, is_on_path, up}
use Rattle.psci_board.specs.declared.draft.Node.{Node}
use Rattle.psci_messages.specs.Message.{PartByPart}
use Rattle.psci_messages.specs.declared.part.Part.{Part}
use Rattle.psci_ctl_spec.specs.Values.{applied, begins_stale, depth_or, is_applied, is_covered}
use Rattle.psci_ctl_spec.specs.Values.{is_live, is_stale, laid, starts_below, Values}
use Rattle.psci_ctl_spec.proofs.Depths.{get_take}
use Rattle.psci_ctl.specs.Rows.{deepened, with_depth}
use Rattle.psci_ctl.specs.Seen.{ControllerValue, Leaves, seen}
use Rattle.psci_ctl.proofs.Kept.{both_false, both_true}

-- The parts of a Down, applied one after another --------------------------------------------------

-- Fronts of lists ----------------------------------------------------------------------------

get_past : (xs : List Part) (n k : ℕ) → n ≤ k → slice_get (take n xs) k ≡ None
get_past xs zero k h = refl
get_past [] (suc n) k h = refl
get_past (x ∷ xs) (suc n) zero h = absurd (omega arith)
get_past (x ∷ xs) (suc n) (suc k) h = get_past xs n k (omega arith)

-- One part -----------------------------------------------------------------------------------

pub is_one : (b : BoardValue) (v : Values) (c k : ℕ) (ps : List Part) (p : Part) (t u : Bool)
    → p.level ≡ k → is_live b v c p ≡ t
    → is_covered b (laid b c (take k ps) v.depth) (domain_of b c p.level) p.depth ≡ u
    → is_applied b v c ps p ≡ (t && u)
is_one b v c k ps p t u level live covered =
    ap (λ s. s && is_covered b (laid b c (take p.level ps) v.depth) (domain_of b c p.level) p.depth)
    live
    ∙ ap (λ s. t && s)
    (ap (λ m. is_covered b (laid b c (take m ps) v.depth) (domain_of b c p.level) p.depth) level
    ∙ covered)

pub is_late : (b : BoardValue) (v : Values) (c : ℕ) (ps : List Part) (p : Part)
    → is_live b v c p ≡ false → is_applied b v c ps p ≡ false
is_late b v c ps p live =
    ap (λ s. s && is_covered b (laid b c (take p.level ps) v.depth) (domain_of b c p.level) p.depth)
    live

-- one part more is laid
pub laid_more : (b : BoardValue) (c k : ℕ) (ps : List Part) (d : Part) (depth : ℕ → ℕ → ℕ)
    → k < length ps → k ≤ height b → (get_or ps k d).level ≡ k → (l q : ℕ)
    → with_depth b c (get_or ps k d) (laid b c (take k ps) depth) l q
    ≡ laid b c (take (k + 1) ps) depth l q
laid_more b c k ps d depth h low level l q =
    let p : Part = get_or ps k d in
    let lay : Option Part → ℕ =
    λ o. cond (is_on_path b c l q) (depth_or o (depth l q)) (depth l q) in
    let off : (is_on_path b c l q ≡ false) → (o : Option Part) → lay o ≡ depth l q =
    λ e o. ap (λ t. cond t (depth_or o (depth l q)) (depth l q)) e in
    ap (λ m. cond (l == m && q == up b m c) p.depth (lay (slice_get (take k ps) l))) level
    ∙ elim (cases_eq l k) [
      | inl e ↦ elim (cases_eq q (up b k c)) [
        | inl f ↦ ap (λ t. cond t p.depth (lay (slice_get (take k ps) l))) (both_true l k q _ e f)
            ∙ sym (ap (λ t. cond t (depth_or (slice_get (take (k + 1) ps) l) (depth l q))
            (depth l q)) (here b c l k q low e f)
            ∙ ap (λ o. depth_or o (depth l q))
            (ap (slice_get (take (k + 1) ps)) e ∙ get_take ps (k + 1) k (omega arith)
            ∙ slice_get-get_or ps k d h))
        | inr f ↦ ap (λ t. cond t p.depth (lay (slice_get (take k ps) l))) (both_false l k q _ e f)
            ∙ off (apart b c l k q low e f) (slice_get (take k ps) l)
            ∙ sym (off (apart b c l k q low e f) (slice_get (take (k + 1) ps) l))
      ]
      | inr e ↦ ap (λ t. cond (t && q == up b k c) p.depth (lay (slice_get (take k ps) l)))
          (ne_eqb l k e)
          ∙ ap lay (elim (cases_lt l k) [
            | inl s ↦ get_take ps k l s ∙ sym (get_take ps (k + 1) l (omega arith))
            | inr s ↦ get_past ps k l s ∙ sym (get_past ps (k + 1) l (omega (arith, e)))
          ])
    ]
  where
    here : (b : BoardValue) (c l k q : ℕ) → k ≤ height b → l ≡ k → q ≡ up b k c
        → is_on_path b c l q ≡ true
    here b c l k q low e f =
        ap (λ m. is_on_path b c m q) e
        ∙ ap (λ s. s && up b k c == q) (le-leb k (height b) low)
        ∙ eq-eqb (up b k c) q (sym f)

    apart : (b : BoardValue) (c l k q : ℕ) → k ≤ height b → l ≡ k → (q ≡ up b k c → ⊥)
        → is_on_path b c l q ≡ false
    apart b c l k q low e f =
        ap (λ m. is_on_path b c m q) e
        ∙ ap (λ s. s && up b k c == q) (le-leb k (height b) low)
        ∙ ne_eqb (up b k c) q (λ s. f (sym s))

-- All parts ----------------------------------------------------------------------------------

-- the first part that is not applied ends the work
pub stops : (b : BoardValue) (v : Values) (c k : ℕ) (ps : List Part) (d : Part) → k < length ps
    → ((j : ℕ) (e : Part) → j < k → is_applied b v c ps (get_or ps j e) ≡ true)
    → is_applied b v c ps (get_or ps k d) ≡ false
    → applied b v c ps ≡ k
unfolding applied
stops b v c k ps d h before here =
    prefix_len_is (is_applied b v c ps) ps k d (omega arith) (λ j q. before j d q) (λ q. here)

-- or there is none
pub goes_on : (b : BoardValue) (v : Values) (c k : ℕ) (ps : List Part) → k ≡ length ps
    → ((j : ℕ) (e : Part) → j < k → is_applied b v c ps (get_or ps j e) ≡ true)
    → applied b v c ps ≡ k
unfolding applied
goes_on b v c k ps h before =
    let d : Part = record { level = 0; depth = 0; generation = 0 } in
    prefix_len_is (is_applied b v c ps) ps k d (omega arith) (λ j q. before j d q)
    (λ q. absurd (omega arith))

first_left : (b : BoardValue) (v : Values) (c k : ℕ) (ps : List Part) (d : Part) → k < length ps
    → begins_stale b v c (drop k ps) ≡ not (is_live b v c (get_or ps k d))
first_left b v c k [] d h = absurd (omega arith)
first_left b v c zero (p ∷ ps) d h = refl
first_left b v c (suc k) (p ∷ ps) d h = first_left b v c k ps d (omega arith)

pub left_stale : (b : BoardValue) (v : Values) (c k : ℕ) (ps : List Part) (d : Part) (t : Bool)
    → k < length ps → applied b v c ps ≡ k → is_live b v c (get_or ps k d) ≡ t
    → is_stale b v c ps ≡ not t
unfolding is_stale
left_stale b v c k ps d t h count live =
    ap (λ n. begins_stale b v c (drop n ps)) count
    ∙ first_left b v c k ps d h
    ∙ ap not live

pub none_left : (b : BoardValue) (v : Values) (c k : ℕ) (ps : List Part) → k ≡ length ps
    → applied b v c ps ≡ k → is_stale b v c ps ≡ false
unfolding is_stale
none_left b v c k ps h count =
    ap (λ n. begins_stale b v c (drop n ps)) count
    ∙ ap (begins_stale b v c) (drop_all k ps (omega arith))

-- no more parts are applied than there are
pub applied_few : (b : BoardValue) (v : Values) (c : ℕ) (ps : List Part)
    → applied b v c ps ≤ length ps
unfolding applied
applied_few b v c ps = prefix_len-le-length (is_applied b v c ps) ps

-- Walked ------------------------------------------------------------------------------------------

abbrev laid_on : ControllerValue → ℕ → ℕ → List Part → Values
laid_on old c k ps =
    record (seen old) { depth = laid old.board c (take k ps) (seen old).depth }

-- the first k parts were applied
pub record IsWalked (old now : ControllerValue) (c k : ℕ) (ps : List Part) : Type 0 where
  pub left : Leaves old now (laid_on old c k ps)
  pub passed : (j : ℕ) (d : Part) → j < k
      → is_applied old.board (seen old) c ps (get_or ps j d) ≡ true

live_then : {old now : ControllerValue} {c k : ℕ} {ps : List Part} (p : Part) {n : Node} {t : Bool}
    → IsWalked old now c k ps → n ≡ domain_of now.board c p.level
    → t ≡ (p.generation == starts_below now.board (seen now).starts n)
    → is_live old.board (seen old) c p ≡ t
live_then {old} {now} {c} p is at test =
    ap (λ (v : Values). is_live old.board v c p) (sym is.left.values)
    ∙ (rw (test, at, is.left.board) refl)

covered_then : {old now : ControllerValue} {c k : ℕ} {ps : List Part} (p : Part) {n : Node}
    {t : Bool} → IsWalked old now c k ps → n ≡ domain_of now.board c p.level
    → t ≡ is_covered now.board (seen now).depth n p.depth
    → is_covered old.board (laid old.board c (take k ps) (seen old).depth)
    (domain_of old.board c p.level) p.depth ≡ t
covered_then {old} {now} {c} p is at test =
    ap (λ (v : Values). is_covered old.board v.depth (domain_of old.board c p.level) p.depth)
    (sym is.left.values)
    ∙ (rw (test, at, is.left.board) refl)

-- the part of a number has that level, and no more than power-down
pub level_at : (ps : List Part) (k : ℕ) (d : Part) → PartByPart ps → k < length ps
    → (get_or ps k d).level ≡ k
level_at ps k d parts h = parts.level k (get_or ps k d) (slice_get-get_or ps k d h)

pub depth_at : (ps : List Part) (k : ℕ) (d : Part) → PartByPart ps → k < length ps
    → (get_or ps k d).depth ≤ 3
depth_at ps k d parts h = parts.deepest k (get_or ps k d) (slice_get-get_or ps k d h)

pub low_at : {old now : ControllerValue} {c k : ℕ} {ps : List Part} (d : Part)
    → IsWalked old now c k ps → PartByPart ps × (length ps ≤ height old.board + 1)
    → k < length ps → (get_or ps k d).level ≤ height now.board
low_at {old} {now} {c} {k} {ps} d is parts h =
    omega (arith, level_at ps k d parts.0 h, ap height is.left.board, parts.1)

-- the next part is live, and applied where it is covered
one_part : {old now : ControllerValue} {c k : ℕ} {ps : List Part} (d : Part) {n : Node} {t : Bool}
    → IsWalked old now c k ps → PartByPart ps → k < length ps
    → n ≡ domain_of now.board c (get_or ps k d).level
    → true ≡ ((get_or ps k d).generation == starts_below now.board (seen now).starts n)
    → t ≡ is_covered now.board (seen now).depth n (get_or ps k d).depth
    → is_applied old.board (seen old) c ps (get_or ps k d) ≡ t
one_part {old} {now} {c} {k} {ps} d {n} {t} is parts h at live covered =
    is_one old.board (seen old) c k ps (get_or ps k d) true t (level_at ps k d parts h)
    (live_then (get_or ps k d) is at live) (covered_then (get_or ps k d) is at covered)

-- one part more was applied
pub walked_more : {old now new : ControllerValue} {c k : ℕ} {ps : List Part} (d : Part) {n : Node}
    → IsWalked old now c k ps → PartByPart ps × (length ps ≤ height old.board + 1)
    → k < length ps → n ≡ domain_of now.board c (get_or ps k d).level
    → true ≡ ((get_or ps k d).generation == starts_below now.board (seen now).starts n)
    → true ≡ is_covered now.board (seen now).depth n (get_or ps k d).depth
    → Leaves now new (record (seen now) {
      depth = deepened n (get_or ps k d).depth (seen now).depth;
    })
    → IsWalked old new c (k + 1) ps
walked_more {old} {now} {new} {c} {k} {ps} d {n} is parts h at live covered left = record {
  left = record {
    board = left.board ∙ is.left.board;
    values =
        left.values
        ∙ ap (λ (m : Node). record (seen now) {
          depth = deepened m (get_or ps k d).depth (seen now).depth;
        }) at
        ∙ ap (λ b. record (seen now) { depth = with_depth b c (get_or ps k d) (seen now).depth })
        is.left.board
        ∙ ap (λ (v : Values). record v { depth = with_depth old.board c (get_or ps k d) v.depth })
        is.left.values
        ∙ (λ i. record (seen old) {
          depth = λ l p. laid_more old.board c k ps d (seen old).depth h (omega arith)
              (level_at ps k d parts.0 h) l p i;
        });
  };
  passed = λ j e q. elim (cases_eq j k) [
    | inl s ↦ ap (λ i. is_applied old.board (seen old) c ps (get_or ps i e)) s
        ∙ ap (is_applied old.board (seen old) c ps) (get_or_default ps k e d h)
        ∙ one_part d is parts.0 h at live covered
    | inr s ↦ is.passed j e (omega (arith, s))
  ];
}

-- What is done, where no more is applied -----------------------------------------------------

-- so many parts are applied, and those that are left are out of date, or not
abbrev IsDone : ControllerValue → ℕ → List Part → ℕ → Bool → Type 0
IsDone old c ps k stale =
    (applied old.board (seen old) c ps ≡ k) × (is_stale old.board (seen old) c ps ≡ stale)

-- the next part is out of date
pub late_done : {old now : ControllerValue} {c k : ℕ} {ps : List Part} (d : Part) {n : Node}
    → IsWalked old now c k ps → k < length ps → n ≡ domain_of now.board c (get_or ps k d).level
    → false ≡ ((get_or ps k d).generation == starts_below now.board (seen now).starts n)
    → IsDone old c ps k true
late_done {old} {now} {c} {k} {ps} d is h at late =
    let live = live_then (get_or ps k d) is at late in
    let count = stops old.board (seen old) c k ps d h is.passed
    (is_late old.board (seen old) c ps (get_or ps k d) live) in
    (count, left_stale old.board (seen old) c k ps d false h count live)

-- or it is not covered
pub held_done : {old now : ControllerValue} {c k : ℕ} {ps : List Part} (d : Part) {n : Node}
    → IsWalked old now c k ps → PartByPart ps → k < length ps
    → n ≡ domain_of now.board c (get_or ps k d).level
    → true ≡ ((get_or ps k d).generation == starts_below now.board (seen now).starts n)
    → false ≡ is_covered now.board (seen now).depth n (get_or ps k d).depth
    → IsDone old c ps k false
held_done {old} {now} {c} {k} {ps} d is parts h at live covered =
    let count = stops old.board (seen old) c k ps d h is.passed
    (one_part d is parts h at live covered) in (
      count,
      left_stale old.board (seen old) c k ps d true h count
          (live_then (get_or ps k d) is at live),
    )

-- or there is none
pub all_done : {old now : ControllerValue} {c k : ℕ} {ps : List Part} → IsWalked old now c k ps
    → k ≡ length ps → IsDone old c ps k false
all_done {old} {now} {c} {k} {ps} is h =
    let count = goes_on old.board (seen old) c k ps h is.passed in
    (count, none_left old.board (seen old) c k ps h count)
