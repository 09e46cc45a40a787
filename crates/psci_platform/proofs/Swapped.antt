-- A swap that passes its test is a renumbering of the board.
use Rattle.std.proofs.Common.{Bor, drop, find, sum}
use Rattle.std.proofs.lemmas.Bool.{and_parts, cases_Bool, cases_eq, ltb-true}
use Rattle.std.proofs.lemmas.List.Folds.{list_all_at}
use Rattle.std.proofs.lemmas.List.FromFn.{get_or-range_with_len, length-range_with_len}
use Rattle.psci_board.specs.Board.{group_of, IsTree, nodes, place_above, size_below, up}
use Rattle.psci_board.proofs.More.{sum-cons}
use Rattle.psci_platform.specs.Names.{IsReady}
use Rattle.psci_platform.specs.States.{row_of}
use Rattle.psci_platform.specs.Swaps.{is_symmetric, moved}
use Rattle.psci_platform.specs.declared.ready.Ready.{Ready}
use Rattle.psci_platform.proofs.Words.{◌&&◌, ◌+◌, ◌-◌, ◌<◌, ◌∙◌, ◌∷◌, ◌≡◌, ◌≤◌, [], ap, arith}
use Rattle.psci_platform.proofs.Words.{BoardValue, Bool, can_ask, can_ask_by, cases_lt, cores}
use Rattle.psci_platform.proofs.Words.{DescriptionValue, eqb-true, false, Format, goes_along}
use Rattle.psci_platform.proofs.Words.{height, IfSome, if◌then◌else◌, inl, inr, is_swapped}
use Rattle.psci_platform.proofs.Words.{IsBoard, IsRenumbering, le-ltb, length, List, list_all}
use Rattle.psci_platform.proofs.Words.{lt-ltb, map, nat_lt, nat_tests, no_state, Node, None}
use Rattle.psci_platform.proofs.Words.{none-some, Option, option_map, OsInitiated, parent}
use Rattle.psci_platform.proofs.Words.{PathLaws, Platform, range_with_len, Reading, reading_of}
use Rattle.psci_platform.proofs.Words.{reads, refl, Row, same_Some, Some, states_if, states_of}
use Rattle.psci_platform.proofs.Words.{subst, suc, SuspendMode, swap_for, sym, true, word_for}
use Rattle.psci_platform.proofs.Words.{zero, ℕ}

-- What is found out of a row says what its words are ----------------------------------------------

-- what is kept of the rows is theirs
pub rows_of : (d : DescriptionValue) (b : BoardValue) (boot : ℕ) (o : Option (Bor Ready))
    (r : Bor Ready) (readings : List Reading) → IfSome o (λ r. IsReady d b boot r.now)
    → o ≡ Some r → readings ≡ r.now.readings.items
    → readings ≡ map (reading_of d b.format) d.rows
rows_of d b boot o r readings is e same =
    let here : IsReady d b boot r.now =
    subst (λ (o : Option (Bor Ready)). IfSome o (λ r. IsReady d b boot r.now)) e is in
    same ∙ here.rows

pub no_word : (d : DescriptionValue) (format : Format) (mode : SuspendMode) (word : ℕ)
    → None ≡ states_of d mode word → no_state ≡ word_for d format (states_of d mode word)
no_word d format mode word none = ap (word_for d format) none

module _ (d : DescriptionValue) (format : Format) where
  abbrev reading : Row → Reading
  reading = reading_of d format

  step : (t : Bool) (row : Row) (o : Option Row)
      → (if t then Some (reading row) else option_map reading o)
      ≡ option_map reading (if t then Some row else o)
  step true row o = refl
  step false row o = refl

  -- the reading that is found is that of the row that reads the word
  by_row : (word : ℕ) (rows : List Row)
      → find (λ (r : Reading). reads word r.row) (map reading rows)
      ≡ option_map reading (find (reads word) rows)
  by_row word [] = refl
  by_row word (row ∷ rows) =
      ap (λ (o : Option Reading). if reads word row then Some (reading row) else o)
      (by_row word rows)
      ∙ step (reads word row) row (find (reads word) rows)

  same_mode : (mode : SuspendMode) (row : Row)
      → can_ask_by (reading row) mode ≡ can_ask d mode row.states
  same_mode OsInitiated row = refl
  same_mode Platform row = refl

  read : (o : Option Row) (r : Reading) → option_map reading o ≡ Some r
      → o ≡ Some r.row × (r ≡ reading r.row)
  read None r e = absurd (none-some r e)
  read (Some row) r e =
      let same = same_Some (reading row) r e in
      let own : row ≡ r.row = ap (λ (x : Reading). x.row) same in
      (ap (λ (x : Row). Some x) own, sym same ∙ ap reading own)

  none_read : (o : Option Row) → option_map reading o ≡ None → o ≡ None
  none_read None e = refl
  none_read (Some row) e = absurd (none-some (reading row) (sym e))

  -- readings of the rows, among which one is looked for that reads a word
  module _ (word : ℕ) (readings : List Reading) (are : readings ≡ map reading d.rows) where
    looked_for : find (λ (r : Reading). reads word r.row) readings
        ≡ option_map reading (row_of d word)
    looked_for = ap (find (λ (r : Reading). reads word r.row)) are ∙ by_row word d.rows

    pub states_missed : find (λ (r : Reading). reads word r.row) readings ≡ None
        → (mode : SuspendMode) → None ≡ states_of d mode word
    states_missed e mode =
        sym (ap (states_if d mode) (none_read (row_of d word) (sym looked_for ∙ e)))

    -- one that is found is that of the word's row
    module _ (r : Reading) (e : find (λ (r : Reading). reads word r.row) readings ≡ Some r) where
      row_read : row_of d word ≡ Some r.row × (r ≡ reading r.row)
      row_read = read (row_of d word) r (sym looked_for ∙ e)

      -- so the word has the row's states, or none where they cannot be asked for
      pub states_read : (mode : SuspendMode) (t : Bool) → can_ask_by r mode ≡ t
          → (if t then Some r.row.states else None) ≡ states_of d mode word
      states_read mode t can =
          let row = row_read in
          let may : can_ask d mode r.row.states ≡ t =
          sym (same_mode mode r.row) ∙ ap (λ (x : Reading). can_ask_by x mode) (sym row.1) ∙ can in
          sym (ap (states_if d mode) row.0
          ∙ ap (λ (t : Bool). if t then Some r.row.states else None) may)

      pub word_found : (mode : SuspendMode) → can_ask_by r mode ≡ true
          → r.word ≡ word_for d format (states_of d mode word)
      word_found mode can =
          let row = row_read in
          ap (λ (x : Reading). x.word) row.1 ∙ ap (word_for d format) (states_read mode true can)

-- Swapped -----------------------------------------------------------------------------------------

-- Tests -----------------------------------------------------------------------------------------

pub left : (s t : Bool) → (s && t) ≡ true → s ≡ true
left s t e = (and_parts s t e).0

pub right : (s t : Bool) → (s && t) ≡ true → t ≡ true
right s t e = (and_parts s t e).1

pub all_of : (p : ℕ → Bool) (a n : ℕ) → ((k : ℕ) → a ≤ k → k < a + n → p k ≡ true)
    → list_all p (range_with_len a n) ≡ true
all_of p a zero each = refl
all_of p a (suc n) each =
    rw (each a (omega arith) (omega arith))
    (all_of p (a + 1) n (λ k low high. each k (omega (arith, low)) (omega (arith, high))))

pub not_all : (p : ℕ → Bool) (n k : ℕ) → k < n → p k ≡ false
    → list_all p (range_with_len 0 n) ≡ false
not_all p n k below e =
    list_all_at p (range_with_len 0 n) k 0 (omega (arith, below, length-range_with_len 0 n))
    (ap p (get_or-range_with_len 0 n k 0 below ∙ omega arith) ∙ e)

pub all_at : (p : ℕ → Bool) (n k : ℕ) → list_all p (range_with_len 0 n) ≡ true → k < n
    → p k ≡ true
all_at p n k e below = elim (cases_Bool (p k)) [
  | inl passes ↦ passes
  | inr fails ↦ let no = not_all p n k below fails in absurd (cc)
]

-- Outside of the tree ---------------------------------------------------------------------------

-- a node without a parent stays
stays : (b : BoardValue) (boot : ℕ) (n : Node) → parent b n ≡ None → moved b boot n ≡ n
unfolding moved
stays b boot n e = rw e refl

stays_high : (b : BoardValue) (boot level place : ℕ) → height b ≤ level
    → swap_for b boot level place ≡ place
stays_high b boot level place h =
    ap (λ (n : Node). n.place) (stays b boot (record { level = level; place = place })
    (rw (le-ltb level (height b) h) refl))

stays_past : (b : BoardValue) (boot level place : ℕ) → nodes b level ≤ place
    → swap_for b boot level place ≡ place
stays_past b boot level place h = elim (cases_lt level (height b)) [
  | inl i ↦
      ap (λ (n : Node). n.place) (stays b boot (record { level = level; place = place })
      (rw (lt-ltb level (height b) i, le-ltb place (nodes b level) h) refl))
  | inr i ↦ stays_high b boot level place i
]

-- past the last core there is no domain
group_past : (w : List ℕ) (i : ℕ) → sum w ≤ i → length w ≤ group_of w i
group_past [] i h = omega arith
group_past (n ∷ ns) i h =
    let all : sum (n ∷ ns) ≡ n + sum ns = sum-cons n ns in
    let rest : length ns ≤ group_of ns (i - n) = group_past ns (i - n) (omega arith) in
    let over : nat_lt i n ≡ false = le-ltb i n (omega arith) in
    rw over (omega arith)

place_past : (levels : List (List ℕ)) (l c : ℕ) → IsTree levels → l ≤ length levels
    → size_below levels ≤ c → size_below (drop l levels) ≤ place_above levels l c
place_past levels zero c tree low h = h
place_past [] (suc l) c tree low h = absurd (omega arith)
place_past (w ∷ ws) (suc l) c tree low h =
    let rest : length w ≤ group_of w c = group_past w c h in
    let many : length w ≡ size_below ws = tree.0 in
    place_past ws l (group_of w c) tree.3 (omega arith) (omega arith)

up_past : (b : BoardValue) (l c : ℕ) → IsBoard b → l ≤ height b → cores b ≤ c
    → nodes b l ≤ up b l c
unfolding up
up_past b l c board low h = place_past b.levels l c board.tree low h

-- Cores of the board ----------------------------------------------------------------------------

-- what the test says of a core
record Swapped (b : BoardValue) (boot c : ℕ) : Type 0 where
  inside : swap_for b boot 0 c < cores b
  back : swap_for b boot 0 (swap_for b boot 0 c) ≡ c
  first : goes_along b boot c 1 ≡ true
  second : goes_along b boot c 2 ≡ true
  third : goes_along b boot c 3 ≡ true

swapped : (b : BoardValue) (boot c : ℕ) → is_swapped b boot c ≡ true → Swapped b boot c
swapped b boot c e =
    let there = and_parts _ _ e in
    let again = and_parts _ _ there.1 in
    let one = and_parts (goes_along b boot c 1) _ again.1 in
    let two = and_parts (goes_along b boot c 2) _ one.1 in
    record {
      inside = ltb-true _ _ there.0;
      back = eqb-true _ _ again.0;
      first = one.0;
      second = two.0;
      third = left _ true two.1;
    }

swapped_core : (b : BoardValue) (boot c : ℕ) → is_symmetric b boot ≡ true → c < cores b
    → Swapped b boot c
unfolding is_symmetric
swapped_core b boot c e h =
    swapped b boot c (all_at (is_swapped b boot) (cores b) c (right _ _ e) h)

pub core_inside : (b : BoardValue) (boot c : ℕ) → is_symmetric b boot ≡ true → c < cores b
    → swap_for b boot 0 c < cores b
core_inside b boot c e h = (swapped_core b boot c e h).inside

goes : (b : BoardValue) (boot c level : ℕ) → level ≤ height b → goes_along b boot c level ≡ true
    → up b level (swap_for b boot 0 c) ≡ swap_for b boot level (up b level c)
goes b boot c level h e = grind (arith, nat_tests)

along : (b : BoardValue) (boot c level : ℕ) → PathLaws b → Swapped b boot c → level ≤ height b
    → level ≤ 3 → up b level (swap_for b boot 0 c) ≡ swap_for b boot level (up b level c)
along b boot c zero paths is h most =
    paths.core (swap_for b boot 0 c) ∙ ap (swap_for b boot 0) (sym (paths.core c))
along b boot c (suc zero) paths is h most = goes b boot c 1 h is.first
along b boot c (suc (suc zero)) paths is h most = goes b boot c 2 h is.second
along b boot c (suc (suc (suc zero))) paths is h most = goes b boot c 3 h is.third
along b boot c (suc (suc (suc (suc level)))) paths is h most = absurd (omega (arith, most))

-- The renumbering -------------------------------------------------------------------------------

-- What the proofs stand on.
record Laws (b : BoardValue) (boot : ℕ) : Type 0 where
  board : IsBoard b
  paths : PathLaws b
  is : is_symmetric b boot ≡ true

moved_up : (b : BoardValue) (boot c level : ℕ) → Laws b boot → c < cores b → level ≤ height b
    → up b level (swap_for b boot 0 c) ≡ swap_for b boot level (up b level c)
moved_up b boot c level laws h i =
    let high : height b ≤ 3 = laws.board.high in
    along b boot c level laws.paths (swapped_core b boot c laws.is h) i (omega arith)

-- a node of the board has a core below it, by which it moves and comes back
record Moves (b : BoardValue) (boot level place : ℕ) : Type 0 where
  inside : swap_for b boot level place < nodes b level
  back : swap_for b boot level (swap_for b boot level place) ≡ place

moves : (b : BoardValue) (boot level place : ℕ) → Laws b boot → level ≤ height b
    → place < nodes b level → Moves b boot level place
moves b boot level place laws h i =
    let n : Node = record { level = level; place = place } in
    let found = laws.paths.some_core n (record { level = h; place = i }) in
    let c : ℕ = found.0 in
    let at : up b level c ≡ place = found.2 in
    let core = swapped_core b boot c laws.is found.1 in
    let there : up b level (swap_for b boot 0 c) ≡ swap_for b boot level place =
    moved_up b boot c level laws found.1 h ∙ ap (swap_for b boot level) at in
    let again : up b level c ≡ swap_for b boot level (up b level (swap_for b boot 0 c)) =
    ap (up b level) (sym core.back) ∙ moved_up b boot (swap_for b boot 0 c) level laws core.inside h
    in
    let below : up b level (swap_for b boot 0 c) < nodes b level =
    laws.paths.inside (swap_for b boot 0 c) level core.inside h in
    record {
      inside = rw (← there) below;
      back = sym (sym at ∙ (again ∙ ap (swap_for b boot level) there));
    }

back : (b : BoardValue) (boot level place : ℕ) → Laws b boot
    → swap_for b boot level (swap_for b boot level place) ≡ place
back b boot level place laws =
    grind (
      arith,
      cases_lt (height b) level,
      cases_lt place (nodes b level),
      stays_high b boot level place,
      stays_past b boot level place,
      moves b boot level place laws,
    )

inside : (b : BoardValue) (boot level place : ℕ) → Laws b boot
    → nat_lt (swap_for b boot level place) (nodes b level) ≡ nat_lt place (nodes b level)
inside b boot level place laws =
    grind (
      arith,
      nat_tests,
      cases_lt (height b) level,
      stays_high b boot level place,
      stays_past b boot level place,
      moves b boot level place laws,
    )

-- from the system up cores have one domain
above_system : (b : BoardValue) (x y level : ℕ) → PathLaws b → x < cores b → y < cores b
    → height b ≤ level → up b level x ≡ up b level y
above_system b x y zero paths h i high =
    let e : height b ≡ 0 = omega arith in rw e at (paths.system x h ∙ sym (paths.system y i))
above_system b x y (suc level) paths h i high = elim (cases_eq (height b) (suc level)) [
  | inl same ↦ rw same at (paths.system x h ∙ sym (paths.system y i))
  | inr other ↦ paths.joined x y level (above_system b x y level paths h i (omega arith))
]

above : (b : BoardValue) (boot level c : ℕ) → Laws b boot
    → up b level (swap_for b boot 0 c) ≡ swap_for b boot level (up b level c)
above b boot level c laws =
    grind (
      arith,
      cases_lt (height b) level,
      cases_lt c (cores b),
      above_system b (swap_for b boot 0 c) c level laws.paths,
      swapped_core b boot c laws.is,
      stays_high b boot level (up b level c),
      stays_past b boot level (up b level c),
      stays_past b boot 0 c,
      up_past b level c laws.board,
      moved_up b boot c level laws,
    )

pub renumbers_by_swap : (b : BoardValue) (boot : ℕ) → IsBoard b → PathLaws b
    → is_symmetric b boot ≡ true → IsRenumbering b (swap_for b boot)
renumbers_by_swap b boot board paths is =
    let laws : Laws b boot = record { board = board; paths = paths; is = is } in
    record {
      back = λ level place. back b boot level place laws;
      inside = λ level place. inside b boot level place laws;
      above = λ level c. above b boot level c laws;
    }
