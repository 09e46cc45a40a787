-- Digits at the front of a text, and their value, as they are counted one by one.
use Rattle.std.proofs.Math.Nat.{pow-le-pow_right}
use Rattle.std.specs.Prelude.{if◌then◌else◌, Some, None}
use Rattle.std.proofs.lemmas.List.{take-take, length-take}
use Rattle.std.proofs.lemmas.List.Sums.{prefix_len-le-length, prefix_len_passes, prefix_len_stops}
use Rattle.std.proofs.lemmas.Str.Parse.{digits_value-take-le}
use Rattle.std.proofs.lemmas.Int.Digits.{digits_value-lt}
use Rattle.psci_board.proofs.Terms.{◌*◌, ◌+◌, ◌<◌, ◌^◌, ◌∷◌, ◌≡◌, ◌≤◌, [], AllDigits, arith, Bool}
use Rattle.psci_board.proofs.Terms.{cases_lt, cond, digit_value, digits_value, digits_value_more}
use Rattle.psci_board.proofs.Terms.{false, get_or, inl, inr, is_ascii_digit, is_ascii_hexdigit}
use Rattle.psci_board.proofs.Terms.{length, List, lit<, nat_le, nat_lt, nat_tests, Option}
use Rattle.psci_board.proofs.Terms.{prefix_len, refl, suc, take, true, zero, ℕ}

-- How far they go -------------------------------------------------------------------------------

-- a byte of the kind after so many
pub one_more : (kind : ℕ → Bool) (bytes : List ℕ) (i : ℕ) → i ≤ prefix_len kind bytes
    → i < length bytes → kind (get_or bytes i 0) ≡ true → i + 1 ≤ prefix_len kind bytes
one_more kind bytes i h l t = elim (cases_lt i (prefix_len kind bytes)) [
  | inl m ↦ omega arith
  | inr m ↦
      let all : prefix_len kind bytes ≡ i = omega arith in
      let stops = prefix_len_stops kind bytes 0 (omega arith) in
      let other : kind (get_or bytes i 0) ≡ false = rw all at stops in
      cc
]

-- a byte of another kind after so many
pub no_more : (kind : ℕ → Bool) (bytes : List ℕ) (i : ℕ) → i ≤ prefix_len kind bytes
    → kind (get_or bytes i 0) ≡ false → prefix_len kind bytes ≡ i
no_more kind bytes i h t = grind (arith, nat_tests, prefix_len_passes)

-- the end of the text after so many
pub all_of_them : (kind : ℕ → Bool) (bytes : List ℕ) (i : ℕ) → i ≤ prefix_len kind bytes
    → length bytes ≤ i → prefix_len kind bytes ≡ i
all_of_them kind bytes i h l = omega (arith, prefix_len-le-length kind bytes)

-- That they are digits --------------------------------------------------------------------------

front_by : (radix : ℕ) (is_digit : ℕ → Bool) (b : ℕ) (bs : List ℕ) (i : ℕ) (t : Bool)
    → is_digit b ≡ t → (is_digit b ≡ true → digit_value b < radix)
    → (i ≤ prefix_len is_digit bs → AllDigits radix (take i bs))
    → suc i ≤ cond t (1 + prefix_len is_digit bs) 0 → AllDigits radix (take (suc i) (b ∷ bs))
front_by radix is_digit b bs i true e digit rest h = (digit e, rest (omega (arith, h)))
front_by radix is_digit b bs i false e digit rest h = absurd (omega (arith, h))

-- so many of the digits at the front are digits
pub front_digits : (radix : ℕ) (is_digit : ℕ → Bool)
    → ((b : ℕ) → is_digit b ≡ true → digit_value b < radix)
    → (bytes : List ℕ) (i : ℕ) → i ≤ prefix_len is_digit bytes → AllDigits radix (take i bytes)
front_digits radix is_digit digit [] zero h = tt
front_digits radix is_digit digit [] (suc i) h = tt
front_digits radix is_digit digit (b ∷ bs) zero h = tt
front_digits radix is_digit digit (b ∷ bs) (suc i) h =
    grind (arith, nat_tests, front_by, front_digits radix is_digit digit bs i)

decimal_digit : (b : ℕ) → is_ascii_digit b ≡ true → digit_value b < 10
decimal_digit b h = grind (arith, nat_tests)

hexadecimal_digit : (b : ℕ) → is_ascii_hexdigit b ≡ true → digit_value b < 16
hexadecimal_digit b h = grind (arith, nat_tests)

pub hexadecimal_yes : (b : ℕ) → digit_value b < 16 → is_ascii_hexdigit b ≡ true
hexadecimal_yes b h = grind (arith, nat_tests)

pub hexadecimal_no : (b : ℕ) → 16 ≤ digit_value b → is_ascii_hexdigit b ≡ false
hexadecimal_no b h = grind (arith, nat_tests)

pub decimal_front : (bytes : List ℕ) → AllDigits 10 (take (prefix_len is_ascii_digit bytes) bytes)
decimal_front bytes =
    front_digits 10 is_ascii_digit decimal_digit bytes (prefix_len is_ascii_digit bytes) (omega
    arith)

pub hexadecimal_front : (bytes : List ℕ) (i : ℕ) → i ≤ prefix_len is_ascii_hexdigit bytes
    → AllDigits 16 (take i bytes)
hexadecimal_front bytes i h = front_digits 16 is_ascii_hexdigit hexadecimal_digit bytes i h

-- Their value -----------------------------------------------------------------------------------

-- with a value of at least 2 ^ 64 so far the whole value is no smaller
pub too_large : (bytes : List ℕ) (i n high : ℕ) → i + 1 ≤ n → i < length bytes
    → high ≤ digits_value 10 (take i bytes) * 10 + digit_value (get_or bytes i 0)
    → high ≤ digits_value 10 (take n bytes)
too_large bytes i n high h l e =
    let less = digits_value-take-le 10 (take n bytes) (i + 1) (lit< tt) in
    let same : digits_value 10 (take (i + 1) bytes) ≤ digits_value 10 (take n bytes) =
    rw (take-take (i + 1) n bytes h) at less in
    omega (arith, digits_value_more 10 bytes i l, same, e)

-- one more digit than fifteen fits 64 bits
pub fifteen_fit : (bytes : List ℕ) (i : ℕ) → i ≤ prefix_len is_ascii_hexdigit bytes
    → i < length bytes → i ≤ 15 → digits_value 16 (take i bytes) < 16 ^ 15
fifteen_fit bytes i h l few =
    grind (arith, nat_tests, length-take, pow-le-pow_right, digits_value-lt, hexadecimal_front)

-- What is answered ------------------------------------------------------------------------------

pub fits : (v : ℕ) (x : ℕ × ℕ) → v < 2 ^ 64 → Some x ≡ (if nat_lt v (2 ^ 64) then Some x else None)
fits v x h = let t : nat_lt v (2 ^ 64) ≡ true = grind (arith, nat_tests) in rw t refl

pub fits_not : (v : ℕ) (x : ℕ × ℕ) → 2 ^ 64 ≤ v
    → ◌≡◌ {A = Option (ℕ × ℕ)} None (if nat_lt v (2 ^ 64) then Some x else None)
fits_not v x h = let t : nat_lt v (2 ^ 64) ≡ false = grind (arith, nat_tests) in rw t refl

pub few : (n : ℕ) (x : ℕ × ℕ) → n ≤ 16 → Some x ≡ (if nat_le n 16 then Some x else None)
few n x h = let t : nat_le n 16 ≡ true = grind (arith, nat_tests) in rw t refl

pub too_many : (n : ℕ) (x : ℕ × ℕ) → 16 < n
    → ◌≡◌ {A = Option (ℕ × ℕ)} None (if nat_le n 16 then Some x else None)
too_many n x h = let t : nat_le n 16 ≡ false = grind (arith, nat_tests) in rw t refl

pub ruleset steps = (prefix_len-le-length)
