-- Rows whose first entries were replaced, and what is kept while every core is off.
use Rattle.std.proofs.lemmas.List.{get_or_append_left, get_or_push}
use Rattle.std.proofs.lemmas.List.Folds.{fold-map, sum_by-replicate}
use Rattle.std.proofs.lemmas.Simd.{map-map}
use Rattle.psci_tree.specs.Kept.{IsOffRow}
use Rattle.psci_tree.specs.Recount.{active, known, low, off}
use Rattle.psci_tree.specs.Way.{AreRows}
use Rattle.psci_tree.proofs.DepthRows.{depths_written}
use Rattle.psci_tree.proofs.Granted.{cleared_from, cleared_more, cleared_over, row_lengths}
use Rattle.psci_tree.proofs.Granted.{rows_long}
use Rattle.psci_tree.proofs.Levels.{states_long}
use Rattle.psci_tree.proofs.Words.{◌++◌, ◌+◌, ◌-◌, ◌<◌, ◌∙◌, ◌∷◌, ◌≡◌, ◌≤◌, [], ap, AreKept}
use Rattle.psci_tree.proofs.Words.{AreSmall, arith, asking_in, asks, below_in, cases_eq, cond}
use Rattle.psci_tree.proofs.Words.{confirmed_of, CoreState, count_by, Depths, drop, false}
use Rattle.psci_tree.proofs.Words.{get_or, get_or-map, get_or-replicate, gone, granted_of}
use Rattle.psci_tree.proofs.Words.{HasNodeIn, inl, inr, is_active, is_away, Keeps, Kept, kept_at}
use Rattle.psci_tree.proofs.Words.{least, leb, length, length-map, length-replicate, level_kept}
use Rattle.psci_tree.proofs.Words.{level_sizes, List, map, nat_tests, never_started, Node}
use Rattle.psci_tree.proofs.Words.{path_cleared, place_above, recount, refl, replicate, set}
use Rattle.psci_tree.proofs.Words.{size_below, span, SpanLaws, state_at, states_in, suc, sum_by}
use Rattle.psci_tree.proofs.Words.{sym, take, TreeValue, true, zero, ℕ}

-- A path is cleared level by level, from the core up ----------------------------------------------

-- nothing is granted, and nothing confirmed
abbrev none : Depths
none = record { granted = 0; confirmed = 0 }

-- with what is left to clear from this level up, all is as cleared at once
pub record IsClearedTo (levels : List (List ℕ)) (core : ℕ) (old now : List (List Depths))
    (level : ℕ) : Type 0 where
  pub rows : AreRows levels (granted_of now) (confirmed_of now)
  pub granted : cleared_from levels core level (granted_of now)
      ≡ path_cleared levels core (granted_of old)
  pub confirmed : cleared_from levels core level (confirmed_of now)
      ≡ path_cleared levels core (confirmed_of old)

-- the rows of either depth, with none at the place of a level on the path
module _ (f : Depths → ℕ) (levels : List (List ℕ)) (core : ℕ) (rows next : List (List Depths))
    (l p : ℕ) (zero : f none ≡ 0) (is : next ≡ set rows l (set (get_or rows l []) p none)) where
  lengths_kept : map length (map (map f) next) ≡ map length (map (map f) rows)
  lengths_kept = rw is (ap (map length) (depths_written f rows l p none)
      ∙ row_lengths (map (map f) rows) l p (f none))

  one_cleared : l ≤ length levels → map length (map (map f) rows) ≡ level_sizes levels
      → p ≡ place_above levels l core
      → cleared_from levels core (l + 1) (map (map f) next)
      ≡ cleared_from levels core l (map (map f) rows)
  one_cleared top long at = rw (is, depths_written f rows l p none, zero) (cleared_more levels
      (map (map f) rows) core l p top (rows_long levels (map (map f) rows) long) at)

-- the domain of one level more is cleared
pub level_cleared : (levels : List (List ℕ)) (core : ℕ) (old now next : List (List Depths))
    (l p : ℕ) → l ≤ length levels → p ≡ place_above levels l core
    → next ≡ set now l (set (get_or now l []) p none) → IsClearedTo levels core old now l
    → IsClearedTo levels core old next (l + 1)
level_cleared levels core old now next l p top at is c = record {
  rows = record {
    granted = lengths_kept (λ d. d.granted) levels core now next l p refl is ∙ c.rows.granted;
    confirmed = lengths_kept (λ d. d.confirmed) levels core now next l p refl is
        ∙ c.rows.confirmed;
  };
  granted = one_cleared (λ d. d.granted) levels core now next l p refl is top c.rows.granted at
      ∙ c.granted;
  confirmed = one_cleared (λ d. d.confirmed) levels core now next l p refl is top
      c.rows.confirmed at ∙ c.confirmed;
}

-- above the system all is cleared
pub cleared_all : (levels : List (List ℕ)) (core : ℕ) (old now : List (List Depths)) (l : ℕ)
    → length levels < l → IsClearedTo levels core old now l
    → (granted_of now ≡ path_cleared levels core (granted_of old))
    × (confirmed_of now ≡ path_cleared levels core (confirmed_of old))
cleared_all levels core old now l h c = (
  sym (cleared_over levels (granted_of now) core l h
      (rows_long levels (granted_of now) c.rows.granted)) ∙ c.granted,
  sym (cleared_over levels (confirmed_of now) core l h
      (rows_long levels (confirmed_of now) c.rows.confirmed)) ∙ c.confirmed,
)

-- What is kept of cores that are off and were never started ---------------------------------------

-- all of them are off
count_never : (n : ℕ) → count_by (λ c. is_away c.activity) (replicate n never_started) ≡ n
count_never n = simp (sum_by-replicate) (omega arith)

-- and ask for power-down
asking_never : (level n : ℕ) → asking_in level 3 (replicate n never_started) ≡ n
asking_never level n = simp (sum_by-replicate) (omega arith)

-- what is kept of so many cores that are off and were never started
pub kept_never : (level n : ℕ) → record {
  known = 0;
  asking = 0 ∷ 0 ∷ 0 ∷ n ∷ [];
  cores = n;
  active = 0;
  off = n;
} ≡ recount level (replicate n never_started)
kept_never level n =
    let known : sum_by (λ c. c.known) (replicate n never_started) ≡ 0 =
    simp sum_by-replicate (omega arith) in
    let active : count_by (λ c. is_active c.activity) (replicate n never_started) ≡ 0 =
    simp sum_by-replicate (omega arith) in
    let none : asking_in level 0 (replicate n never_started) ≡ 0 =
    simp sum_by-replicate (omega arith) in
    let one : asking_in level 1 (replicate n never_started) ≡ 0 =
    simp sum_by-replicate (omega arith) in
    let two : asking_in level 2 (replicate n never_started) ≡ 0 =
    simp sum_by-replicate (omega arith) in
    simp (known, active, none, one, two, asking_never, count_never, length-replicate)

pub never_keeps : (level n : ℕ)
    → Keeps level (recount 0 (replicate n never_started)) (replicate n never_started)
never_keeps level n =
    let known : sum_by (λ c. c.known) (replicate n never_started) ≡ 0 =
    simp sum_by-replicate (omega arith) in
    record {
      counted = sym (kept_never 0 n) ∙ kept_never level n;
      small = omega (arith, known);
    }

-- Gone --------------------------------------------------------------------------------------------

-- One after the other --------------------------------------------------------------------------

-- so many were replaced, and the others are as they were
abbrev pub gone_to : {X : Type 0} → (X → X) → ℕ → List X → List X
gone_to f n xs = map f (take n xs) ++ drop n xs

pub gone_more : {X : Type 0} (f : X → X) (xs : List X) (n : ℕ) (d : X) → n < length xs
    → set (gone_to f n xs) n (f (get_or (gone_to f n xs) n d)) ≡ gone_to f (suc n) xs
gone_more f [] n d h = absurd (omega arith)
gone_more f (x ∷ xs) zero d h = refl
gone_more f (x ∷ xs) (suc n) d h =
    ap (λ rest. f x ∷ rest) (gone_more f xs n d (omega arith))

pub gone_all : {X : Type 0} (f : X → X) (xs : List X) (n : ℕ) → length xs ≤ n
    → gone_to f n xs ≡ map f xs
gone_all f [] zero h = refl
gone_all f [] (suc n) h = refl
gone_all f (x ∷ xs) zero h = absurd (omega arith)
gone_all f (x ∷ xs) (suc n) h = ap (λ rest. f x ∷ rest) (gone_all f xs n (omega arith))

-- While every core is off ------------------------------------------------------------------------

take_never : (n k : ℕ) → k ≤ n → take k (replicate n never_started) ≡ replicate k never_started
take_never n zero h = refl
take_never zero (suc k) h = absurd (omega arith)
take_never (suc n) (suc k) h = ap (λ cs. never_started ∷ cs) (take_never n k (omega arith))

slice_never : (n f k : ℕ) → f + k ≤ n
    → take k (drop f (replicate n never_started)) ≡ replicate k never_started
slice_never n zero k h = take_never n k (omega arith)
slice_never zero (suc f) k h = absurd (omega arith)
slice_never (suc n) (suc f) k h = slice_never n f k (omega arith)

-- the states below a node
pub states_never : (levels : List (List ℕ)) (n : Node) → SpanLaws levels → HasNodeIn levels n
    → states_in levels (replicate (size_below levels) never_started) n
    ≡ replicate (span levels n).count never_started
states_never levels n laws h =
    slice_never (size_below levels) (span levels n).first (span levels n).count (laws.inside n h)

small_never : (n : ℕ) → AreSmall (replicate n never_started)
small_never n = λ i d h.
    rw (get_or-replicate n i never_started d (omega (arith, h, length-replicate n never_started)))
    (omega arith)

-- rows of what is kept of so many off cores
pub rows_off : (levels : List (List ℕ)) (rows : List (List Kept)) → SpanLaws levels
    → length rows ≡ length levels
    → ((level : ℕ) → 0 < level → level ≤ length levels
    → IsOffRow levels level (level_kept rows level))
    → AreKept levels (replicate (size_below levels) never_started) rows
rows_off levels rows laws long each = record {
  shape = record {
    height = long;
    domains = λ level some top. (each level some top).count;
  };
  small = small_never (size_below levels);
  each = λ level some top. λ place inside.
      let is = each level some top in
      let n : Node = record { level = level; place = place } in
      rw (states_never levels n laws (record { level = top; place = inside }))
      (is.each place (omega (arith, inside, is.count)));
}

-- domains that were turned off keep so much
pub turned_off : (levels : List (List ℕ)) (cores : List CoreState) (rows : List (List Kept))
    → SpanLaws levels → length cores ≡ size_below levels → AreKept levels cores rows
    → AreKept levels (replicate (size_below levels) never_started) (map (map gone) rows)
turned_off levels cores rows laws same are =
    rows_off levels (map (map gone) rows) laws (length-map rows (map gone) ∙ are.shape.height)
    (λ level some top.
    let row : level_kept (map (map gone) rows) level ≡ map gone (level_kept rows level) =
    get_or-map (map gone) rows (level - 1) [] [] (omega (arith, some, top, are.shape.height)) in
    record {
      count = ap length row ∙ length-map (level_kept rows level) gone
          ∙ are.shape.domains level some top;
      each = λ place inside.
          let n : Node = record { level = level; place = place } in
          let there : place < length (level_kept rows level) =
          omega (arith, inside, ap length row, length-map (level_kept rows level) gone) in
          let has : HasNodeIn levels n = record {
            level = top;
            place = omega (arith, there, are.shape.domains level some top);
          } in
          let keeps = are.each level some top place has.place in
          let is : get_or (level_kept (map (map gone) rows) level) place (recount 0 [])
          ≡ gone (kept_at rows level place) =
          ap (λ (ks : List Kept). get_or ks place (recount 0 [])) row
          ∙ get_or-map gone (level_kept rows level) place (recount 0 []) (recount 0 []) there in
          let many : (kept_at rows level place).cores ≡ (span levels n).count =
          ap (λ (k : Kept). k.cores) keeps.counted ∙ states_long levels cores n laws same has in
          rw (is, many) (never_keeps level (span levels n).count);
    })

-- one row more
pub rows_push : (levels : List (List ℕ)) (rows now : List (List Kept)) (row : List Kept) (level : ℕ)
    → length rows + 1 ≡ level → now ≡ rows ++ row ∷ [] → IsOffRow levels level row
    → ((k : ℕ) → 0 < k → k < level → IsOffRow levels k (level_kept rows k))
    → (k : ℕ) → 0 < k → k < level + 1 → IsOffRow levels k (level_kept now k)
rows_push levels rows now row level long e own each k some h = elim (cases_eq k level) [
  | inl same ↦
      rw (e, get_or_push rows row [] (k - 1) (omega (arith, long, same)), same) own
  | inr other ↦
      rw (e, get_or_append_left rows (row ∷ []) [] (k - 1) (omega (arith, long, h, some, other)))
      (each k some (omega (arith, h, other)))
]

-- Recounts over the states of the cores below a domain --------------------------------------------

abbrev pub states : TreeValue → Node → List CoreState
states t n = map (λ c. state_at t c) (below_in t.levels n)

pub low_is : (t : TreeValue) (n : Node) (level : ℕ) (cs : List CoreState) → cs ≡ states t n
    → level ≤ length t.levels → least (map (λ s. asks s.activity level) cs) ≡ low t n level
unfolding low
low_is t n level cs e h =
    let within : leb level (length t.levels) ≡ true = grind (arith, nat_tests) in
    rw (e, map-map (λ s. asks s.activity level) (λ c. state_at t c) (below_in t.levels n), within)

none_asked : (xs : List ℕ) → 0 < length xs → least (map (λ c. 0) xs) ≡ 0
none_asked [] h = absurd (omega arith)
none_asked (x ∷ xs) h = omega arith

-- no core asks anything above the height
pub low_above : (t : TreeValue) (n : Node) (level : ℕ) → 0 < length (below_in t.levels n)
    → length t.levels < level → 0 ≡ low t n level
unfolding low
low_above t n level some h =
    let above : leb level (length t.levels) ≡ false = grind (arith, nat_tests) in
    rw above (sym (none_asked (below_in t.levels n) some))

sum_is : (f : CoreState → ℕ) (t : TreeValue) (n : Node) (cs : List CoreState) → cs ≡ states t n
    → sum_by f cs ≡ sum_by (λ c. f (state_at t c)) (below_in t.levels n)
sum_is f t n cs e =
    ap (sum_by f) e ∙ fold-map (λ a x. a + f x) (λ c. state_at t c) 0 (below_in t.levels n)

pub known_is : (t : TreeValue) (n : Node) (cs : List CoreState) → cs ≡ states t n
    → sum_by (λ s. s.known) cs ≡ known t n
unfolding known
known_is t n cs e = sum_is (λ s. s.known) t n cs e

pub active_is : (t : TreeValue) (n : Node) (cs : List CoreState) → cs ≡ states t n
    → count_by (λ s. is_active s.activity) cs ≡ active t n
unfolding active
active_is t n cs e = sum_is (λ s. cond (is_active s.activity) 1 0) t n cs e

pub off_is : (t : TreeValue) (n : Node) (cs : List CoreState) → cs ≡ states t n
    → count_by (λ s. is_away s.activity) cs ≡ off t n
unfolding off
off_is t n cs e = sum_is (λ s. cond (is_away s.activity) 1 0) t n cs e
