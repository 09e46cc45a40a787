-- A power state word asks the same in the identity of a board; depths are an ask exactly where the
-- extended format has a word for them.
use Rattle.std.specs.Prelude.{filter, IfOk, nat_lt, None, Some}
use Rattle.std.specs.Result.{result_ok}
use Rattle.std.proofs.Common.{add-one, get_or}
use Rattle.std.proofs.lemmas.Bool.{and_parts, cases_Bool, leb-true}
use Rattle.std.proofs.lemmas.List.FromFn.{get_or-map-range_with_len}
use Rattle.std.proofs.lemmas.Nat.{and_mask}
use Rattle.psci_state.specs.PowerState.{is_deep}
use Rattle.psci_platform.specs.Faults.{are_states, is_running_above}
use Rattle.psci_platform.specs.Identity.{asks_up_to}
use Rattle.psci_platform.specs.States.{is_deeper, word_asking}
use Rattle.psci_platform.proofs.ByWord.{passed, Passed}
use Rattle.psci_platform.proofs.Swaps.{no_power_state}
use Rattle.psci_platform.proofs.Swapped.{right}
use Rattle.psci_platform.proofs.Words.{[], ◌%◌, ◌&&◌, ◌*◌, ◌+◌, ◌/◌, ◌<◌, ◌==◌, ◌^◌, ◌||◌, ◌↔◌, ◌∙◌}
use Rattle.psci_platform.proofs.Words.{◌∷◌, ◌≡◌, ◌≤◌, ap, arith, ask_of, asked_by, asks_states}
use Rattle.psci_platform.proofs.Words.{BadState, BoardValue, Bool, can_ask, cond, deepest_of}
use Rattle.psci_platform.proofs.Words.{depth_at, depths_at, depths_of, DescriptionValue, eq-eqb}
use Rattle.psci_platform.proofs.Words.{eqb-true, Err, Extended, false, fault_of, find}
use Rattle.psci_platform.proofs.Words.{first_argument, Format, height, highest_of, identity, inl}
use Rattle.psci_platform.proofs.Words.{inr, is_ask, is_power_state, IsAsk, IsTrue, le-leb, length}
use Rattle.psci_platform.proofs.Words.{List, list_all, map, nat_le, nat_tests, None, none-some, Ok}
use Rattle.psci_platform.proofs.Words.{Option, OsInitiated, Platform, range_with_len, reads, refl}
use Rattle.psci_platform.proofs.Words.{Result, rises, Row, row_asking, same_Some, slice_index, Some}
use Rattle.psci_platform.proofs.Words.{states_if, states_of, suc, SuspendMode, sym, true, word_for}
use Rattle.psci_platform.proofs.Words.{word_of, zero, ℕ}
use Rattle.psci_state.proofs.Words.{ask-from_test, ask-test, word_back, word_read}
use Rattle.psci_abi.specs.declared.request.Request.TheVariants as requests
use Rattle.psci_platform.specs.declared.asked.Asked.TheVariants as asks

-- What the proofs stand on: the laws of power state words.
pub record StateLaws : Type 0 where
  pub written : (format : Format) (height : ℕ) (ask : List ℕ) → IsAsk ask
      → highest_of ask ≤ height → ask_of format height (word_of format ask) ≡ Ok ask
  pub read : (format : Format) (height word : ℕ) (ask : List ℕ) → word < 2 ^ 32
      → ask_of format height word ≡ Ok ask → word_of format ask ≡ word
  pub shape : (format : Format) (height word : ℕ) (ask : List ℕ)
      → ask_of format height word ≡ Ok ask → IsAsk ask × (highest_of ask ≤ height)
  pub test : (depths : List ℕ) → IsTrue (is_ask depths) ↔ IsAsk depths

pub state_laws : StateLaws
state_laws = record {
  written = word_read;
  read = λ format height word ask below is. (word_back format height word ask is).word_is below;
  shape = λ format height word ask is.
      let back = word_back format height word ask is in (back.shape, back.high);
  test = λ depths. (ask-from_test depths, ask-test depths);
}

-- Rows of asks ----------------------------------------------------------------------------------

-- an ask whose row passes a test
record Found (p : Row → Bool) (f : List ℕ → Row) (q : List ℕ → Bool) (row : Row) : Type 0 where
  ask : List ℕ
  is : f ask ≡ row
  asked : q ask ≡ true
  passes : p (f ask) ≡ true

found : (p : Row → Bool) (f : List ℕ → Row) (q : List ℕ → Bool) (xs : List (List ℕ)) (row : Row)
    → find p (map f (filter q xs)) ≡ Some row → Found p f q row
found p f q [] row e = absurd (none-some row e)
found p f q (x ∷ xs) row e = elim (cases_Bool (q x)) [
  | inl t ↦ elim (cases_Bool (p (f x))) [
    | inl g ↦
        record { ask = x; is = same_Some _ _ (rw (t, g) at e); asked = t; passes = g }
    | inr g ↦ found p f q xs row (rw (t, g) at e)
  ]
  | inr t ↦ found p f q xs row (rw t at e)
]

missed : (p : Row → Bool) (f : List ℕ → Row) (q : List ℕ → Bool) (xs : List (List ℕ)) (k : ℕ)
    → find p (map f (filter q xs)) ≡ None → k < length xs → q (get_or xs k []) ≡ true
    → p (f (get_or xs k [])) ≡ true → ⊥
missed p f q [] k none below asked passes = absurd (omega (arith, below))
missed p f q (x ∷ xs) zero none below asked passes =
    none-some (f x) (sym (rw (asked, passes) at none))
missed p f q (x ∷ xs) (suc k) none below asked passes = grind (arith, missed p f q xs k)

-- Asks and numbers ------------------------------------------------------------------------------

abbrev number : List ℕ → ℕ
number ask =
    slice_index ask 0 + 4 * slice_index ask 1 + 16 * slice_index ask 2 + 64 * slice_index ask 3

pub four : (xs : List ℕ) → length xs ≡ 4
    → slice_index xs 0 ∷ slice_index xs 1 ∷ slice_index xs 2 ∷ slice_index xs 3 ∷ [] ≡ xs
four (a ∷ b ∷ c ∷ d ∷ []) e = refl
four xs e = absurd (omega (arith, e))

digits : (a b c d : ℕ) → a ≤ 3 → b ≤ 3 → c ≤ 3 → d ≤ 3
    → depths_at (a + 4 * b + 16 * c + 64 * d) ≡ a ∷ b ∷ c ∷ d ∷ []
digits a b c d a_most b_most c_most d_most =
    let n = a + 4 * b + 16 * c + 64 * d in
    let e0 : n % 4 ≡ a = omega (arith, a_most, b_most, c_most, d_most) in
    let e1 : n / 4 % 4 ≡ b = omega (arith, a_most, b_most, c_most, d_most) in
    let e2 : n / 16 % 4 ≡ c = omega (arith, a_most, b_most, c_most, d_most) in
    let e3 : n / 64 % 4 ≡ d = omega (arith, a_most, b_most, c_most, d_most) in
    rw (e0, e1, e2, e3) refl

-- no depth of an ask is greater than that of its core
pub most : (ask : List ℕ) → IsAsk ask → (level : ℕ) → slice_index ask level ≤ 3
most ask is zero = is.most
most ask is (suc level) = omega (arith, rw add-one at (is.falls level), most ask is level)

number_is : (ask : List ℕ) → IsAsk ask → (number ask < 256) × (depths_at (number ask) ≡ ask)
number_is ask is =
    let a = most ask is 0 in
    let b = most ask is 1 in
    let c = most ask is 2 in
    let d = most ask is 3 in
    (omega (arith, a, b, c, d), digits _ _ _ _ a b c d ∙ four ask is.levels)

-- What an identity asks -------------------------------------------------------------------------

-- at the levels from 0 to 3 a state has the depth of its number, and is the first of its class
own_depth : (b : BoardValue) (level n : ℕ) → level ≤ 3 → n ≤ 3
    → (depth_at (identity b) level n ≡ n) × (is_deeper (identity b) level n ≡ false)
own_depth b (suc (suc (suc (suc level)))) n low most = absurd (omega (arith, low))
own_depth b level (suc (suc (suc (suc n)))) low most = absurd (omega (arith, most))
own_depth b level n low most = (refl, refl)

own_depths : (b : BoardValue) (ask : List ℕ) → IsAsk ask → depths_of (identity b) ask ≡ ask
own_depths b ask is =
    let e0 = (own_depth b 0 (slice_index ask 0) (omega arith) (most ask is 0)).0 in
    let e1 = (own_depth b 1 (slice_index ask 1) (omega arith) (most ask is 1)).0 in
    let e2 = (own_depth b 2 (slice_index ask 2) (omega arith) (most ask is 2)).0 in
    let e3 = (own_depth b 3 (slice_index ask 3) (omega arith) (most ask is 3)).0 in
    rw (e0, e1, e2, e3) (four ask is.levels)

own_can_ask : (b : BoardValue) (mode : SuspendMode) (ask : List ℕ) → IsAsk ask
    → can_ask (identity b) mode ask ≡ true
own_can_ask b OsInitiated ask is = refl
own_can_ask b Platform ask is =
    let e1 = (own_depth b 1 (slice_index ask 1) (omega arith) (most ask is 1)).1 in
    let e2 = (own_depth b 2 (slice_index ask 2) (omega arith) (most ask is 2)).1 in
    let e3 = (own_depth b 3 (slice_index ask 3) (omega arith) (most ask is 3)).1 in
    rw (e1, e2, e3) refl

-- What a word asks ------------------------------------------------------------------------------

abbrev asks_test : List ℕ → ℕ → Bool
asks_test ask height = is_ask ask && nat_le (highest_of ask) height

-- a word is that of an ask exactly where the row of the ask reads it
reads_own : (word : ℕ) (format : Format) (ask : List ℕ) → word < 2 ^ 32
    → reads word (row_asking format ask) ≡ (word == word_of format ask)
reads_own word format ask small = grind (arith, and_mask word 32)

module _ (b : BoardValue) (mode : SuspendMode) (word : ℕ) (laws : StateLaws)
    (small : word < 2 ^ 32) where
  -- the row that reads a word is that of what it asks
  read_by : (o : Option Row) (r : Result (List ℕ) BadState)
      → find (reads word) (identity b).rows ≡ o → ask_of b.format (height b) word ≡ r
      → states_if (identity b) mode o ≡ result_ok r
  unfolding asks_up_to
  read_by None (Err bad) none e = refl
  read_by None (Ok ask) none e =
      let shape = laws.shape b.format (height b) word ask e in
      let at = number_is ask shape.0 in
      let is : word ≡ word_of b.format ask =
      sym (laws.read b.format (height b) word ask small e) in
      let asked : asks_test ask (height b) ≡ true =
      rw ((laws.test ask).1 shape.0, le-leb (highest_of ask) (height b) shape.1) refl in
      let passes : reads word (row_asking b.format ask) ≡ true =
      reads_own word b.format ask small ∙ eq-eqb _ _ is in
      let own : get_or (map depths_at (range_with_len 0 256)) (number ask) [] ≡ ask =
      get_or-map-range_with_len depths_at 0 256 (number ask) (number ask) [] at.0 (omega arith)
      ∙ at.1 in
      absurd (missed (reads word) (row_asking b.format) (λ x. asks_test x (height b))
      (map depths_at (range_with_len 0 256)) (number ask) none (omega (arith, at.0))
      (ap (λ (x : List ℕ). asks_test x (height b)) own ∙ asked)
      (ap (λ (x : List ℕ). reads word (row_asking b.format x)) own ∙ passes))
  read_by (Some row) r some e =
      let f = found (reads word) (row_asking b.format) (λ x. asks_test x (height b))
      (map depths_at (range_with_len 0 256)) row some in
      let test = and_parts (is_ask f.ask) (nat_le (highest_of f.ask) (height b)) f.asked in
      let is : IsAsk f.ask = (laws.test f.ask).0 test.0 in
      let word_is : word ≡ word_of b.format f.ask =
      eqb-true _ _ (sym (reads_own word b.format f.ask small) ∙ f.passes) in
      let read : r ≡ Ok f.ask =
      sym e ∙ ap (ask_of b.format (height b)) word_is
      ∙ laws.written b.format (height b) f.ask is (leb-true _ _ test.1) in
      ap (λ (x : Row). states_if (identity b) mode (Some x)) (sym f.is)
      ∙ rw (own_can_ask b mode f.ask is, read) refl

  -- so its states are the depths that the firmware reads in it
  pub states_are : states_of (identity b) mode word
      ≡ result_ok (ask_of b.format (height b) word)
  states_are =
      read_by (find (reads word) (identity b).rows) (ask_of b.format (height b) word) refl refl

-- a word of 32 bits that asks the same
abbrev Same : BoardValue → ℕ → ℕ → Type 0
Same b w word = (w < 2 ^ 32)
    × (ask_of b.format (height b) w ≡ ask_of b.format (height b) word)

same_by : (b : BoardValue) (word : ℕ) (r : Result (List ℕ) BadState) → StateLaws → word < 2 ^ 32
    → ask_of b.format (height b) word ≡ r
    → Same b (word_for (identity b) b.format (result_ok r)) word
same_by b word (Err bad) laws small e =
    (omega arith, no_power_state b.format (height b) ∙ sym e)
same_by b word (Ok ask) laws small e =
    let is : IsAsk ask = (laws.shape b.format (height b) word ask e).0 in
    let own : word_for (identity b) b.format (Some ask) ≡ word =
    ap (word_asking b.format) (own_depths b ask is)
    ∙ rw ((laws.test ask).1 is) (laws.read b.format (height b) word ask small e) in
    (omega (arith, own, small), ap (ask_of b.format (height b)) own)

-- the word that the firmware is asked with for a word asks the same
pub state_same : (b : BoardValue) (mode : SuspendMode) (word : ℕ) → StateLaws → word < 2 ^ 32
    → Same b (word_for (identity b) b.format (states_of (identity b) mode word)) word
state_same b mode word laws small =
    rw (states_are b mode word laws small)
    (same_by b word (ask_of b.format (height b) word) laws small refl)

-- Words of the extended format --------------------------------------------------------------------

type_fits : (t : Bool) → cond t 1 0 ≤ 1
type_fits t = grind arith

level_fits : (r s t : Bool) → cond r 3 (cond s 2 (cond t 1 0)) ≤ 3
level_fits r s t = grind arith

-- depths that have the word of an ask are the ask
decided : (depths ask : List ℕ) → length depths ≡ 4 → ((level : ℕ) → slice_index depths level ≤ 3)
    → IsAsk ask → word_of Extended ask ≡ word_of Extended depths → depths ≡ ask
decided depths ask size low is same =
    let e : (slice_index depths 0 ≡ slice_index ask 0) × (slice_index depths 1 ≡ slice_index ask 1)
    × (slice_index depths 2 ≡ slice_index ask 2) × (slice_index depths 3 ≡ slice_index ask 3) =
    omega (
      arith,
      same,
      low 0,
      low 1,
      low 2,
      low 3,
      most ask is 0,
      most ask is 1,
      most ask is 2,
      most ask is 3,
      type_fits (is_deep ask),
      type_fits (is_deep depths),
    ) in
    sym (four depths size) ∙ rw (e.0, e.1, e.2, e.3) (four ask is.levels)

-- so what is read of the word of some depths is these depths, where they are an ask
pub ask_is : ((depths : List ℕ) → IsTrue (is_ask depths) ↔ IsAsk depths)
    → ((format : Format) (height : ℕ) (ask : List ℕ) → IsAsk ask → highest_of ask ≤ height
    → ask_of format height (word_of format ask) ≡ Ok ask)
    → (depths : List ℕ) → length depths ≡ 4 → ((level : ℕ) → slice_index depths level ≤ 3)
    → (word : ℕ) → word ≡ word_of Extended depths
    → (r : Result (List ℕ) BadState) → r ≡ ask_of Extended 3 word
    → IfOk r (λ ask. IsAsk ask) → IfOk r (λ ask. word_of Extended ask ≡ word)
    → (t : Bool) → is_ask depths ≡ t → result_ok r ≡ cond t (Some depths) None
ask_is test written depths size low word same r value shape back true e =
    ap result_ok (value ∙ ap (ask_of Extended 3) same
    ∙ written Extended 3 depths ((test depths).0 e) (level_fits _ _ _))
ask_is test written depths size low word same (Err bad) value shape back false e = refl
ask_is test written depths size low word same (Ok ask) value shape back false e =
    let yes : is_ask depths ≡ true =
    ap is_ask (decided depths ask size low shape (back ∙ same)) ∙ (test ask).1 shape in
    cc

-- Agreeing ----------------------------------------------------------------------------------------
-- What is told beside a call of a description that has no fault is what the firmware is asked for.

-- Power states ----------------------------------------------------------------------------------

-- the row that reads a word is one of the rows
of_all : (p q : Row → Bool) (rows : List Row) (row : Row) → list_all p rows ≡ true
    → find q rows ≡ Some row → p row ≡ true
of_all p q [] row all e = absurd (none-some row e)
of_all p q (r ∷ rows) row all e = grind (arith, of_all p q rows row)

-- a state of a level is asked for that the board has, where running is no depth
asked_low : (levels h level n x z rest : ℕ) → nat_lt h levels ≡ false
    → (nat_le level levels || n == 0) ≡ true → (z == 0) ≡ true → (n ≡ 0 → x ≡ z) → rest ≤ h
    → cond (nat_lt 0 x) level rest ≤ h
asked_low levels h level n x z rest high asked shallow running low = grind (arith, nat_tests)

-- no state is asked for above the board's height
highest : (d : DescriptionValue) (h : ℕ) (states : List ℕ) → nat_lt h d.levels ≡ false
    → list_all (rises d) (0 ∷ 1 ∷ 2 ∷ 3 ∷ []) ≡ true → is_running_above d.levels states ≡ true
    → highest_of (depths_of d states) ≤ h
highest d h states levels rise above =
    let one = and_parts (rises d 1) _ (and_parts (rises d 0) _ rise).1 in
    let two = and_parts (rises d 2) _ one.1 in
    let three = and_parts (rises d 3) _ two.1 in
    let low = and_parts _ _ above in
    let middle = and_parts _ _ low.1 in
    let last = and_parts _ _ middle.1 in
    asked_low d.levels h 3 _ _ _ _ levels last.0 (and_parts _ _ three.0).0 (ap (depth_at d 3))
    (asked_low d.levels h 2 _ _ _ _ levels middle.0 (and_parts _ _ two.0).0 (ap (depth_at d 2))
    (asked_low d.levels h 1 _ _ _ _ levels low.0 (and_parts _ _ one.0).0 (ap (depth_at d 1))
    (omega arith)))

-- What is told ----------------------------------------------------------------------------------

-- the word that the firmware is asked with, by the row that reads a word
abbrev asked_word : DescriptionValue → BoardValue → SuspendMode → Option Row → ℕ
asked_word d b mode o = word_for d b.format (states_if d mode o)

row_told : (d : DescriptionValue) (b : BoardValue) (boot : ℕ) (row : Row) → StateLaws
    → Passed d b boot → is_power_state d row ≡ true
    → ask_of b.format (height b) (word_for d b.format (Some row.states))
    ≡ Ok (depths_of d row.states)
row_told d b boot row laws s is =
    let depths = depths_of d row.states in
    let test : is_ask depths ≡ true = right (are_states d row.states) (is_ask depths) is in
    let low : highest_of depths ≤ height b = grind (arith, highest, s.levels, s.rise, is) in
    rw test (laws.written b.format (height b) depths ((laws.test depths).0 test) low)

told_if : (d : DescriptionValue) (b : BoardValue) (boot : ℕ) (row : Row) (states : List ℕ)
    (t : Bool) → StateLaws → Passed d b boot → is_power_state d row ≡ true
    → asks_states (cond t (Some row.states) None) ≡ asks.States states
    → ask_of b.format (height b) (word_for d b.format (cond t (Some row.states) None))
    ≡ Ok (depths_of d states)
told_if d b boot row states true laws s is e =
    let same : row.states ≡ states = cc in
    row_told d b boot row laws s is ∙ ap (λ (xs : List ℕ). Ok (depths_of d xs)) same
told_if d b boot row states false laws s is e = absurd (cc)

told_by : (d : DescriptionValue) (b : BoardValue) (boot : ℕ) (mode : SuspendMode) (word : ℕ)
    (o : Option Row) (states : List ℕ) → StateLaws → Passed d b boot → find (reads word) d.rows ≡ o
    → asks_states (states_if d mode o) ≡ asks.States states
    → ask_of b.format (height b) (asked_word d b mode o) ≡ Ok (depths_of d states)
told_by d b boot mode word None states laws s read e = absurd (cc)
told_by d b boot mode word (Some row) states laws s read e =
    told_if d b boot row states (can_ask d mode row.states) laws s
    (of_all (is_power_state d) (reads word) d.rows row s.states read) e

pub told : (d : DescriptionValue) (b : BoardValue) (boot place x1 : ℕ) (mode : SuspendMode)
    (state entry context : ℕ) (states : List ℕ) → StateLaws → fault_of d b boot ≡ None
    → asked_by d mode (requests.CpuSuspend state entry context) ≡ asks.States states
    → ask_of b.format (height b)
    (first_argument d b place mode x1 (requests.CpuSuspend state entry context))
    ≡ Ok (depths_of d states)
told d b boot place x1 mode state entry context states laws none e =
    told_by d b boot mode state (find (reads state) d.rows) states laws (passed d b boot none) refl
    e

-- where no states are told
silent_by : (d : DescriptionValue) (b : BoardValue) (o : Option (List ℕ))
    → asks_states o ≡ asks.Nothing
    → ask_of b.format (height b) (word_for d b.format o) ≡ Err (record {})
silent_by d b None e = no_power_state b.format (height b)
silent_by d b (Some states) e = absurd (cc)

pub silent : (d : DescriptionValue) (b : BoardValue) (place x1 : ℕ) (mode : SuspendMode)
    (state entry context : ℕ)
    → asked_by d mode (requests.CpuSuspend state entry context) ≡ asks.Nothing
    → ask_of b.format (height b)
    (first_argument d b place mode x1 (requests.CpuSuspend state entry context))
    ≡ Err (record {})
silent d b place x1 mode state entry context e = silent_by d b (states_of d mode state) e

-- SYSTEM_SUSPEND --------------------------------------------------------------------------------

pub down : (d : DescriptionValue) (b : BoardValue) (boot : ℕ) → fault_of d b boot ≡ None
    → d.functions.system_suspend ≡ true → depths_of d d.system ≡ deepest_of (height b)
down d b boot none there = grind (arith, nat_tests, (passed d b boot none).system)
