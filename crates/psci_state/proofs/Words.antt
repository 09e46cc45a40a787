-- The word of an ask is read as this ask.
use Rattle.std.specs.Cmp.Derive.{both_true}
use Rattle.std.specs.Prelude.{Err, if◌then◌else◌, nat_le, nat_lt, Ok, Result, slice_index}
use Rattle.std.proofs.Common.{◌&&◌, ◌*◌, ◌+◌, ◌<◌, ◌==◌, ◌^◌, ◌∙◌, ◌∷◌, ◌≡◌, ◌≤◌, [], ap, arith}
use Rattle.std.proofs.Common.{Bool, cond, length, List, refl, subst, true, ℕ}
use Rattle.std.proofs.lemmas.Bool.{and_parts, eq-eqb, eqb-true, le-leb, leb-true, lt-ltb}
use Rattle.std.proofs.lemmas.Bool.{ltb-true}
use Rattle.std.proofs.lemmas.Bool.Decides.{nat_tests}
use Rattle.std.proofs.lemmas.List.{get_or_past}
use Rattle.psci_abi.specs.declared.registers.Format.{Format}
use Rattle.psci_abi.specs.declared.registers.Format.TheVariants.{Extended, Original}
use Rattle.psci_state.specs.PowerState.{ask_of, asked, bits, has_level, highest_of, id_of}
use Rattle.psci_state.specs.PowerState.{is_ask, is_power_state, is_state_id, IsAsk}
use Rattle.psci_state.specs.PowerState.{reserved_is_zero, state_id, state_type, type_of, word_of}
use Rattle.psci_state.specs.declared.fault.BadState.{BadState}

-- The ask of a word gives the word back -----------------------------------------------------------

five : (r s t u v : Bool) → (r && s && t && u && v) ≡ true
    → (r ≡ true) × (s ≡ true) × (t ≡ true) × (u ≡ true) × (v ≡ true)
five r s t u v test = grind (arith, and_parts)

six : (r s t u v w : Bool) → (r && s && t && u && v && w) ≡ true
    → (r ≡ true) × (s ≡ true) × (t ≡ true) × (u ≡ true) × (v ≡ true) × (w ≡ true)
six r s t u v w test = grind (arith, and_parts)

-- four depths that do not grow upwards
falling : (ask : List ℕ) → length ask ≡ 4 → slice_index ask 1 ≤ slice_index ask 0
    → slice_index ask 2 ≤ slice_index ask 1 → slice_index ask 3 ≤ slice_index ask 2
    → (level : ℕ) → slice_index ask (level + 1) ≤ slice_index ask level
falling ask four first second third level = grind (arith, get_or_past)

-- The test of an ask.
pub ask-from_test : (ask : List ℕ) → is_ask ask ≡ true → IsAsk ask
ask-from_test ask test =
    let parts = six (length ask == 4) (nat_le 1 (slice_index ask 0)) (nat_le (slice_index ask 0) 3)
    (nat_le (slice_index ask 1) (slice_index ask 0))
    (nat_le (slice_index ask 2) (slice_index ask 1))
    (nat_le (slice_index ask 3) (slice_index ask 2)) test in
    record {
      levels = eqb-true _ _ parts.0;
      least = leb-true _ _ parts.1;
      most = leb-true _ _ parts.2;
      falls = falling ask (eqb-true _ _ parts.0) (leb-true _ _ parts.3) (leb-true _ _ parts.4)
          (leb-true _ _ parts.5);
    }

pub ruleset ask_laws = ask-from_test

-- a state id of 16 bits is that of what it asks
asked_back : (id : ℕ) → id < 2 ^ 16 → id_of (asked id) ≡ id
asked_back id small = omega arith

-- a word is made of its fields
original_back : (word : ℕ) → word < 2 ^ 32 → bits word 31 26 ≡ 0 → bits word 23 17 ≡ 0
    → bits word 15 0 + 2 ^ 16 * bits word 16 16 + 2 ^ 24 * bits word 25 24 ≡ word
original_back word below high low = omega arith

extended_back : (word : ℕ) → word < 2 ^ 32 → bits word 31 31 ≡ 0 → bits word 29 28 ≡ 0
    → bits word 27 0 + 2 ^ 30 * bits word 30 30 ≡ word
extended_back word below high low = omega arith

fields_back : (format : Format) (word : ℕ) (ask : List ℕ) → word < 2 ^ 32
    → reserved_is_zero format word ≡ true → has_level format word (highest_of ask) ≡ true
    → state_type format word ≡ type_of ask → id_of ask ≡ state_id format word
    → word_of format ask ≡ word
fields_back Original word ask below reserved level type id =
    let zeros = and_parts (bits word 31 26 == 0) (bits word 23 17 == 0) reserved in
    let whole = original_back word below (eqb-true _ _ zeros.0) (eqb-true _ _ zeros.1) in
    omega (arith, whole, id, type, eqb-true (bits word 25 24) (highest_of ask) level)
fields_back Extended word ask below reserved level type id =
    let zeros = and_parts (bits word 31 31 == 0) (bits word 29 28 == 0) reserved in
    omega (arith, extended_back word below (eqb-true _ _ zeros.0) (eqb-true _ _ zeros.1), id, type)

taken : (b : Bool) (xs ys : List ℕ) (e : BadState)
    → cond {A = Result (List ℕ) BadState} b (Ok xs) (Err e) ≡ Ok ys → (b ≡ true) × (xs ≡ ys)
taken b xs ys e is = grind arith

-- The ask of a word: it is one, asks nothing above the height, and gives a word of 32 bits back.
pub record IsBack (format : Format) (height word : ℕ) (ask : List ℕ) : Type 0 where
  pub shape : IsAsk ask
  pub high : highest_of ask ≤ height
  pub word_is : word < 2 ^ 32 → word_of format ask ≡ word

pub word_back : (format : Format) (height word : ℕ) (ask : List ℕ)
    → ask_of format height word ≡ Ok ask → IsBack format height word ask
word_back format height word ask is =
    let id = state_id format word in
    let level = highest_of (asked id) in
    let found = taken (is_power_state format height word) (asked id) ask (record {}) is in
    let parts = five (reserved_is_zero format word) (is_state_id id) (nat_le level height)
    (has_level format word level) (state_type format word == type_of (asked id)) found.0 in
    let of_id = and_parts (nat_lt id (2 ^ 16)) (is_ask (asked id)) parts.1 in
    let back : IsBack format height word (asked id) = record {
      shape = ask-from_test (asked id) of_id.1;
      high = leb-true _ _ parts.2;
      word_is = λ below. fields_back format word (asked id) below parts.0 parts.3
          (eqb-true _ _ parts.4)
          (asked_back id (ltb-true _ _ of_id.0));
    } in
    subst (λ xs. IsBack format height word xs) found.1 back

-- Words -------------------------------------------------------------------------------------------

one_bit : (b : Bool) → cond b 1 0 < 2
one_bit b = grind arith

two_bits : (x y z : Bool) → cond x 3 (cond y 2 (cond z 1 0)) < 4
two_bits x y z = grind arith

-- The fields of a word are those of an ask with this state id.
record HasFields (format : Format) (word id : ℕ) (ask : List ℕ) : Type 0 where
  id_is : state_id format word ≡ id
  type_is : state_type format word ≡ type_of ask
  level_is : has_level format word (highest_of ask) ≡ true
  reserved : reserved_is_zero format word ≡ true

original : (word id type level : ℕ) → id < 2 ^ 16 → type < 2 → level < 4
    → word ≡ id + 2 ^ 16 * type + 2 ^ 24 * level
    → (bits word 15 0 ≡ id) × (bits word 16 16 ≡ type) × (bits word 25 24 ≡ level)
    × (bits word 31 26 ≡ 0) × (bits word 23 17 ≡ 0)
original word id type level small two four is =
    (omega arith, omega arith, omega arith, omega arith, omega arith)

extended : (word id type : ℕ) → id < 2 ^ 16 → type < 2 → word ≡ id + 2 ^ 30 * type
    → (bits word 27 0 ≡ id) × (bits word 30 30 ≡ type) × (bits word 31 31 ≡ 0)
    × (bits word 29 28 ≡ 0)
extended word id type small two is = (omega arith, omega arith, omega arith, omega arith)

fields : (format : Format) (ask : List ℕ) → id_of ask < 2 ^ 16
    → HasFields format (word_of format ask) (id_of ask) ask
fields Original ask small =
    let parts = original (word_of Original ask) (id_of ask) (type_of ask) (highest_of ask) small
    (one_bit _) (two_bits _ _ _) refl in
    record {
      id_is = parts.0;
      type_is = parts.1;
      level_is = eq-eqb _ _ parts.2;
      reserved = both_true (eq-eqb _ _ parts.3) (eq-eqb _ _ parts.4);
    }
fields Extended ask small =
    let parts = extended (word_of Extended ask) (id_of ask) (type_of ask) small (one_bit _) refl in
    record {
      id_is = parts.0;
      type_is = parts.1;
      level_is = eq-eqb _ _ refl;
      reserved = both_true (eq-eqb _ _ parts.2) (eq-eqb _ _ parts.3);
    }

chosen : (p : List ℕ → Bool) (xs ys : List ℕ) (e : Result (List ℕ) BadState) → xs ≡ ys
    → p ys ≡ true → cond (p xs) (Ok xs) e ≡ Ok ys
chosen p xs ys e same passed = rw (same, passed)

-- A word with the fields of this ask.
passes : (format : Format) (height word id : ℕ) (ask : List ℕ) → HasFields format word id ask
    → asked id ≡ ask → id < 2 ^ 16 → is_ask ask ≡ true → highest_of ask ≤ height
    → ask_of format height word ≡ Ok ask
passes format height word id ask has ask_is small shape high =
    ap (λ i. if reserved_is_zero format word && is_state_id i
    && nat_le (highest_of (asked i)) height && has_level format word (highest_of (asked i))
    && state_type format word == type_of (asked i) then Ok (asked i) else Err (record {})) has.id_is
    ∙ chosen (λ xs. reserved_is_zero format word && (nat_lt id (2 ^ 16) && is_ask xs)
    && nat_le (highest_of xs) height && has_level format word (highest_of xs)
    && state_type format word == type_of xs)
    (asked id) ask (Err (record {})) ask_is
    (both_true (both_true (both_true (both_true has.reserved (both_true (lt-ltb _ _ small) shape))
    (le-leb _ _ high)) has.level_is) (eq-eqb _ _ has.type_is))

-- The four depths of a state id.
digits : (a b c d : ℕ) → a < 16 → b < 16 → c < 16 → d < 16
    → asked (a + 2 ^ 4 * b + 2 ^ 8 * c + 2 ^ 12 * d) ≡ a ∷ b ∷ c ∷ d ∷ []
digits a b c d la lb lc ld =
    let id = a + 2 ^ 4 * b + 2 ^ 8 * c + 2 ^ 12 * d in
    let first : bits id 3 0 ≡ a = omega arith in
    let second : bits id 7 4 ≡ b = omega arith in
    let third : bits id 11 8 ≡ c = omega arith in
    let fourth : bits id 15 12 ≡ d = omega arith in
    cc

-- What the state id of an ask asks, and that it has 16 bits.
id_of_ask : (ask : List ℕ) → IsAsk ask → (asked (id_of ask) ≡ ask) × (id_of ask < 2 ^ 16)
id_of_ask (a ∷ b ∷ c ∷ d ∷ []) is =
    let most : a ≤ 3 = is.most in
    let second : b ≤ a = is.falls 0 in
    let third : c ≤ b = is.falls 1 in
    let fourth : d ≤ c = is.falls 2 in
    (digits a b c d (omega arith) (omega arith) (omega arith) (omega arith), omega arith)
id_of_ask other is = absurd (omega (arith, is.levels))

-- An ask passes the test.
pub ask-test : (ask : List ℕ) → IsAsk ask → is_ask ask ≡ true
ask-test ask is =
    let first = is.falls 0 in
    let second = is.falls 1 in
    let third = is.falls 2 in
    grind (arith, nat_tests)

-- The word of an ask is a power state of every board that is high enough.
pub word_read : (format : Format) (height : ℕ) (ask : List ℕ) → IsAsk ask
    → highest_of ask ≤ height → ask_of format height (word_of format ask) ≡ Ok ask
word_read format height ask is high =
    let id = id_of_ask ask is in
    passes format height (word_of format ask) (id_of ask) ask (fields format ask id.1) id.0 id.1
    (ask-test ask is) high
