-- A kept line is one of the grammar's event lines.
use Rattle.std.specs.Char.{digit_value, is_ascii_hexdigit}
use Rattle.std.specs.Fmt.{digit_glyph, digits, digits_onto}
use Rattle.std.specs.List.{AllByRecursion}
use Rattle.std.specs.Prelude.{Bool, if◌then◌else◌}
use Rattle.std.specs.Str.Parse.{AllDigits, digits_value}
use Rattle.std.proofs.Common.{◌%◌, ◌*◌, ◌++◌, ◌+◌, ◌-◌, ◌/◌, ◌<◌, ◌==◌, ◌^◌, ◌∙◌, ◌∷◌, ◌≡◌, ◌≤◌}
use Rattle.std.proofs.Common.{[], ap, arith, drop, false, length, List, refl, set, subst, suc}
use Rattle.std.proofs.Common.{true, zero, ℕ}
use Rattle.std.proofs.Math.Nat.{pow-suc}
use Rattle.std.proofs.lemmas.Bool.Decides.{nat_tests}
use Rattle.std.proofs.lemmas.Fmt.{digits_is_IsNumeral}
use Rattle.std.proofs.lemmas.List.{append-nil, drop-set, drop_all}
use Rattle.std.proofs.lemmas.List.Elements.{All-from_recursion}
use Rattle.psci_world_spec.specs.declared.event.Event.{Event}
use Rattle.psci_world_spec.specs.declared.event.Event.TheVariants.{Call, Deliver, Enter, Reset}
use Rattle.psci_world_spec.specs.declared.event.Event.TheVariants.{Take, Wake}
use Rattle.psci_script.specs.EventText.{event_line, event_of, event_text, EventText, HasWords}
use Rattle.psci_script.specs.EventText.{IsEventText, IsRegisterText, ReadsAsKept, ReadsAsSpelled}
use Rattle.psci_script.specs.EventText.{RegisterText}
use Rattle.psci_script.specs.EventText.EventText.{CallText, NumberText}
use Rattle.psci_script.specs.EventText.RegisterText.{Hexadecimal}
use Rattle.psci_script.specs.EventText.Word.{DeliverWord, EnterWord, ResetWord, TakeWord}
use Rattle.psci_script.specs.EventText.Word.{WakeWord}

-- The hexadecimal digits of a number, written from the last to the first --------------------------

is_zero : (n : ℕ) → n ≡ 0 → (n == 0) ≡ true
is_zero n e = grind (arith, nat_tests)

not_zero : (n : ℕ) → (n ≡ 0 → ⊥) → (n == 0) ≡ false
not_zero n h = grind (arith, nat_tests)

last_digit : (k n : ℕ) (acc : List ℕ) → n / 16 ≡ 0
    → digits_onto (suc k) 16 false n acc ≡ digit_glyph false (n % 16) ∷ acc
last_digit k n acc e = grind (arith, nat_tests, is_zero)

more_digits : (k n : ℕ) (acc : List ℕ) → (n / 16 ≡ 0 → ⊥)
    → digits_onto (suc k) 16 false n acc
    ≡ digits_onto k 16 false (n / 16) (digit_glyph false (n % 16) ∷ acc)
more_digits k n acc h = grind (arith, nat_tests, not_zero)

-- so far the bytes from here on are the last digits, with so many places left before them; unless
-- none is written yet, the number that is left is not 0
pub record IsUnderWay (n : ℕ) (tail : List ℕ) (left rest : ℕ) (bytes : List ℕ) : Type 0 where
  pub done : List ℕ
  pub bytes_are : bytes ≡ done ++ tail
  pub others : digits_onto (48 + left) 16 false rest done ≡ digits 16 false n
  pub small : rest < 16 ^ left
  pub some : left < 16 → 0 < rest

pub none_yet : (n : ℕ) (tail : List ℕ) → n < 2 ^ 64 → IsUnderWay n tail 16 n tail
unfolding digits
none_yet n tail h = grind (arith, nat_tests)

same_glyph : (d x : ℕ) (bytes tail : List ℕ) → d ≡ x → bytes ≡ tail → d ∷ bytes ≡ x ∷ tail
same_glyph d x bytes tail e f = ap (λ b. b ∷ bytes) e ∙ ap (λ l. x ∷ l) f

less : (n m : ℕ) → n < m * 16 → n / 16 < m
less n m h = grind (arith, h)

module _ (n : ℕ) (tail : List ℕ) (j rest digit : ℕ) (bytes room : List ℕ)
    (w : IsUnderWay n tail (suc j) rest bytes)
    (e : digit ≡ digit_glyph false (rest % 16)) (r : room ≡ digit ∷ bytes) where
  places : 48 + suc j ≡ suc (48 + j)
  places = omega arith

  others : digits_onto (suc (48 + j)) 16 false rest w.done ≡ digits 16 false n
  others = subst (λ k. digits_onto k 16 false rest w.done ≡ digits 16 false n) places w.others

  pub one_more : (rest / 16 ≡ 0 → ⊥) → IsUnderWay n tail j (rest / 16) room
  one_more h = grind (arith, nat_tests, same_glyph, others, more_digits, less, pow-suc)

  pub all_done : rest / 16 ≡ 0 → room ≡ digits 16 false n ++ tail
  all_done h = grind (arith, nat_tests, same_glyph, last_digit, others)

pub never_none : (n : ℕ) (tail : List ℕ) (rest : ℕ) (bytes : List ℕ)
    → IsUnderWay n tail 0 rest bytes → ⊥
never_none n tail rest bytes w = omega (arith, w.small, w.some (omega arith))

-- a byte is written before the others
pub put_before : (room : List ℕ) (at next byte : ℕ) → at < length room → at + 1 ≡ next
    → drop at (set room at byte) ≡ byte ∷ drop next room
put_before room at next byte h e = grind (arith, nat_tests, drop-set)

pub one_left : (n : ℕ) (tail : List ℕ) (left rest : ℕ) (bytes : List ℕ) → 0 < left
    → IsUnderWay n tail left rest bytes → IsUnderWay n tail (suc (left - 1)) rest bytes
one_left n tail left rest bytes some w = grind (arith, nat_tests)

-- Kept lines --------------------------------------------------------------------------------------

-- Hexadecimal digits ------------------------------------------------------------------------------

by_test : (t : Bool) (one more : List ℕ) (most : ℕ) → (t ≡ true → length one ≤ most)
    → (t ≡ false → length more ≤ most) → length (if t then one else more) ≤ most
by_test true one more most holds fails = holds refl
by_test false one more most holds fails = fails refl

-- a number below 16^(k + 1) has at most k + 1 digits
few_digits : (k i n : ℕ) (after : List ℕ) → k < i → n < 16 ^ suc k
    → length (digits_onto i 16 false n after) ≤ length after + suc k
few_digits k zero n after high small = absurd (omega arith)
few_digits zero (suc i) n after high small = grind (arith, nat_tests, by_test)
few_digits (suc k) (suc i) n after high small = grind (arith, nat_tests, by_test, few_digits k i)

most_digits : (n : ℕ) → n < 2 ^ 64 → length (digits 16 false n) ≤ 16
unfolding digits
most_digits n small = omega (arith, few_digits 15 64 n [] (omega arith) (omega (arith, small)))

-- each of them is a hexadecimal digit
digit_passes : (c : ℕ) → digit_value c < 16 → is_ascii_hexdigit c ≡ true
digit_passes c h = grind (arith, nat_tests)

digits_pass : (ds : List ℕ) → AllDigits 16 ds
    → AllByRecursion (λ d. is_ascii_hexdigit d ≡ true) ds
digits_pass [] h = tt
digits_pass (d ∷ ds) h = (digit_passes d h.0, digits_pass ds h.1)

-- the digits of a register
abbrev register : ℕ → RegisterText
register n = Hexadecimal (digits 16 false n)

hex_of : (n : ℕ) → n < 2 ^ 64 → IsRegisterText (register n)
hex_of n small =
    let numeral =
    digits_is_IsNumeral 16 false (omega arith) (omega arith) n (omega (arith, small)) in
    record {
      some = numeral.0.0;
      most = most_digits n small;
      each = All-from_recursion _ (digits 16 false n) (digits_pass (digits 16 false n) numeral.0.1);
    }

value_of : (n : ℕ) → n < 2 ^ 64 → digits_value 16 (digits 16 false n) ≡ n
value_of n small =
    (digits_is_IsNumeral 16 false (omega arith) (omega arith) n (omega (arith, small))).1

-- Lines -------------------------------------------------------------------------------------------

-- an event, as it is spelled
abbrev spelled : Event → EventText
spelled (Call core regs) = CallText core (register regs.x0)
    (register regs.x1 ∷ register regs.x2 ∷ register regs.x3 ∷ [])
spelled (Enter core) = NumberText EnterWord core
spelled (Wake core) = NumberText WakeWord core
spelled (Reset core) = NumberText ResetWord core
spelled (Deliver number) = NumberText DeliverWord number
spelled (Take number) = NumberText TakeWord number

is_spelled : (e : Event) → HasWords e → IsEventText (spelled e)
is_spelled (Call core regs) h = grind (arith, nat_tests, hex_of)
is_spelled e h = h

says : (e : Event) → HasWords e → event_of (spelled e) ≡ e
says (Call core regs) h = grind (arith, nat_tests, value_of)
says e h = refl

is_line : (e : Event) → event_text (spelled e) ≡ event_line e
is_line (Call core regs) = rw (append-nil (digits 16 false regs.x3)) refl
is_line e = refl

pub reads_as_kept : ReadsAsSpelled → ReadsAsKept
reads_as_kept reads e words = grind (arith, nat_tests, is_line, spelled, is_spelled, says)

-- An answer line ends where the room for it does --------------------------------------------------

-- the line feed stands last
pub line_feed_last : (room : List ℕ) → length room ≡ 448 → drop 447 (set room 447 10) ≡ 10 ∷ []
line_feed_last room long =
    drop-set room 447 10 (omega arith) ∙ ap (λ l. 10 ∷ l) (drop_all 448 room (omega arith))
