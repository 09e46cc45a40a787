-- What is read of a word, of digits and of a frame that stand before something else.
use Rattle.std.specs.Fmt.{decimal, digit_glyph, digits, digits_onto, signed_decimal}
use Rattle.std.proofs.Common.{◌%◌, ◌*◌, ◌++◌, ◌+◌, ◌/◌, ◌<◌, ◌==◌, ◌^◌, ◌∙◌, ◌∷◌, ◌≡◌, ◌≤◌}
use Rattle.std.proofs.Common.{[], ap, arith, Bool, codes, false, if◌then◌else◌, length, List, refl}
use Rattle.std.proofs.Common.{subst, suc, sym, zero, true, ℕ, ℤ, pos, negsuc, Some, None, Option}
use Rattle.std.specs.Prelude.{option_map}
use Rattle.std.specs.List.{AllByRecursion}
use Rattle.std.proofs.lemmas.Bool.Decides.{nat_tests}
use Rattle.std.specs.Char.{digit_value}
use Rattle.std.specs.Str.Parse.{digits_value}
use Rattle.std.proofs.lemmas.Fmt.{digits_is_IsNumeral}
use Rattle.psci_record.specs.Texts.{byte_text, bytes_text, core_text, frame_text, some_byte}
use Rattle.psci_record.specs.Texts.{with_byte}
use Rattle.psci_record.specs.Reading.{behind, behind_digits, bytes_in, code_in, core_in}
use Rattle.psci_record.specs.Reading.{digits_in, either, Event, frame_in, framed, framed_by}
use Rattle.psci_record.specs.Reading.{is_small_digit, negated, number_in, Rest, valued}
use Rattle.psci_record.specs.Reading.{IsCode, IsFrame, IsNamed}
use Rattle.psci_record.specs.declared.line.Named.{Named}
use Rattle.psci_record.specs.declared.line.Named.TheVariants.{Mpidr, Number}

-- Digits before something else ------------------------------------------------------------------

-- lower-case digits of a base
abbrev pub AreDigits : ℕ → List ℕ → Type 0
AreDigits b ds = AllByRecursion (λ code. is_small_digit b code ≡ true) ds

if_true : {A : Type 0} (t : Bool) (x y : A) → t ≡ true → (if t then x else y) ≡ x
if_true true x y e = refl
if_true false x y e = absurd (search arith)

if_false : {A : Type 0} (t : Bool) (x y : A) → t ≡ false → (if t then x else y) ≡ y
if_false false x y e = refl
if_false true x y e = absurd (search arith)

-- the digits end where something else follows
pub run : (b : ℕ) (ds : List ℕ) (c : ℕ) (rest : List ℕ) → AreDigits b ds
    → is_small_digit b c ≡ false → digits_in b (ds ++ c ∷ rest) ≡ ds
run b [] c rest all end = if_false (is_small_digit b c) (c ∷ digits_in b rest) [] end
run b (d ∷ ds) c rest all end =
    if_true (is_small_digit b d) (d ∷ digits_in b (ds ++ c ∷ rest)) [] all.0
    ∙ ap (λ l. d ∷ l) (run b ds c rest all.1 end)

pub behind_run : (b : ℕ) (ds : List ℕ) (c : ℕ) (rest : List ℕ) → AreDigits b ds
    → is_small_digit b c ≡ false → behind_digits b (ds ++ c ∷ rest) ≡ c ∷ rest
behind_run b [] c rest all end = if_false (is_small_digit b c) (behind_digits b rest) (c ∷ rest) end
behind_run b (d ∷ ds) c rest all end =
    if_true (is_small_digit b d) (behind_digits b (ds ++ c ∷ rest)) (d ∷ (ds ++ c ∷ rest)) all.0
    ∙ behind_run b ds c rest all.1 end

-- what is a digit and what is none are two
apart : (b c d : ℕ) → is_small_digit b c ≡ false → is_small_digit b d ≡ true → (c == d) ≡ false
apart b c d other digit = grind (arith, nat_tests)

is_zero : (n : ℕ) → (n == 0) ≡ true → n ≡ 0
is_zero n e = grind (arith, nat_tests)

either_none : (t : Bool) {text : Option (List ℕ)} → text ≡ None
    → (if t then text else None) ≡ None
either_none true e = e
either_none false e = refl

-- The digits of a number ------------------------------------------------------------------------

small_glyph : (b d : ℕ) → b ≤ 16 → d < b → is_small_digit b (digit_glyph false d) ≡ true
small_glyph b d most h = grind (arith, nat_tests)

-- each digit that is written is one
onto_small : (b k n : ℕ) (acc : List ℕ) → 0 < b → b ≤ 16
    → AreDigits b acc
    → AreDigits b (digits_onto k b false n acc)
onto_small b zero n acc some most all = all
onto_small b (suc k) n acc some most all =
    let glyph : is_small_digit b (digit_glyph false (n % b)) ≡ true =
    small_glyph b (n % b) most (omega arith) in
    either_way (n / b == 0) (digit_glyph false (n % b) ∷ acc)
    (digits_onto k b false (n / b) (digit_glyph false (n % b) ∷ acc))
    (glyph, all)
    (onto_small b k (n / b) (digit_glyph false (n % b) ∷ acc) some most (glyph, all))
  where
    either_way : (t : Bool) (xs ys : List ℕ)
        → AreDigits b xs
        → AreDigits b ys
        → AreDigits b (if t then xs else ys)
    either_way true xs ys p q = p
    either_way false xs ys p q = q

pub digits_small : (b n : ℕ) → 0 < b → b ≤ 16
    → AreDigits b (digits b false n)
unfolding digits
digits_small b n some most = onto_small b 64 n [] some most tt

-- a number that its digits are, of which there is one
by_digits : (b : ℕ) (ds : List ℕ) (n : ℕ) (more : ℕ → Rest) (text : List ℕ) → 0 < length ds
    → digits_value b ds ≡ n → valued b ds more text ≡ more n text
by_digits b [] n more text some e = absurd (omega arith)
by_digits b (d ∷ ds) n more text some e = ap (λ m. more m text) e

pub number_read : (b n : ℕ) → 2 ≤ b → b ≤ 16 → n < b ^ 64 → (more : ℕ → Rest) (c : ℕ)
    (rest : List ℕ) → is_small_digit b c ≡ false
    → number_in b more (digits b false n ++ c ∷ rest) ≡ more n (c ∷ rest)
unfolding number_in
number_read b n least most fits more c rest end =
    let all = digits_small b n (omega arith) most in
    let numeral = digits_is_IsNumeral b false least most n fits in
    ap (λ ds. valued b ds more (behind_digits b (digits b false n ++ c ∷ rest)))
    (run b (digits b false n) c rest all end)
    ∙ ap (λ text. valued b (digits b false n) more text)
    (behind_run b (digits b false n) c rest all end)
    ∙ by_digits b (digits b false n) n more (c ∷ rest) numeral.0.0 numeral.1

-- a word that begins with no digit is not what digits begin with
pub other_word : (b c : ℕ) (word ds text : List ℕ) → is_small_digit b c ≡ false → 0 < length ds
    → AreDigits b ds
    → behind (c ∷ word) (ds ++ text) ≡ None
other_word b c word [] text other some all = absurd (omega arith)
other_word b c word (d ∷ ds) text other some all =
    if_false (c == d) (behind word (ds ++ text)) None (apart b c d other all.0)

-- decimal digits do not begin as a number in hexadecimal does
pub no_prefix : (ds : List ℕ) (c : ℕ) (rest : List ℕ) → (120 == c) ≡ false
    → AreDigits 10 ds → 0 < length ds
    → behind (codes "0x") (ds ++ c ∷ rest) ≡ None
no_prefix [] c rest end all some = absurd (omega arith)
no_prefix (d ∷ []) c rest end all some =
    either_none (48 == d) (if_false (120 == c) (behind [] rest) None end)
no_prefix (d ∷ e ∷ ds) c rest end all some =
    either_none (48 == d)
    (if_false (120 == e) (behind [] (ds ++ c ∷ rest)) None (apart 10 120 e refl all.1.0))

-- what is read otherwise
pub by_other : (word : List ℕ) (text : List ℕ) (more : Rest) (other : Option Event)
    → behind word text ≡ None → either (behind word text) more other ≡ other
by_other word text more other e = ap (λ found. either found more other) e

module _ (n : ℕ) (fits : n < 2 ^ 64) where
  decimal_some : 0 < length (decimal n)
  decimal_some = (digits_is_IsNumeral 10 false (omega arith) (omega arith) n (omega arith)).0.0

  decimal_small : AreDigits 10 (decimal n)
  decimal_small = digits_small 10 n (omega arith) (omega arith)

  pub decimal_read : (more : ℕ → Rest) (c : ℕ) (rest : List ℕ) → is_small_digit 10 c ≡ false
      → number_in 10 more (decimal n ++ c ∷ rest) ≡ more n (c ∷ rest)
  decimal_read = number_read 10 n (omega arith) (omega arith) (omega arith)

  pub hexadecimal_read : (more : ℕ → Rest) (c : ℕ) (rest : List ℕ) → is_small_digit 16 c ≡ false
      → number_in 16 more (digits 16 false n ++ c ∷ rest) ≡ more n (c ∷ rest)
  hexadecimal_read = number_read 16 n (omega arith) (omega arith) (omega arith)

-- a signed number, and a core
pub code_read : (code : ℤ) → IsCode code → (more : ℤ → Rest) (c : ℕ) (rest : List ℕ)
    → is_small_digit 10 c ≡ false
    → code_in more (signed_decimal code ++ c ∷ rest) ≡ more code (c ∷ rest)
unfolding code_in
code_read (pos n) fits more c rest end =
    by_other (codes "-") (decimal n ++ c ∷ rest) (number_in 10 (negated more))
    (number_in 10 (λ m. more (pos m)) (decimal n ++ c ∷ rest))
    (other_word 10 45 [] (decimal n) (c ∷ rest) refl (decimal_some n (omega arith))
    (decimal_small n (omega arith)))
    ∙ decimal_read n (omega arith) (λ m. more (pos m)) c rest end
code_read (negsuc n) fits more c rest end =
    decimal_read (suc n) (omega arith) (negated more) c rest end

pub core_read : (core : Named) → IsNamed core → (more : Named → Rest) (rest : List ℕ)
    → core_in more (core_text core ++ 32 ∷ rest) ≡ more core (32 ∷ rest)
unfolding core_in
core_read (Mpidr word) fits more rest =
    hexadecimal_read word fits (λ w. more (Mpidr w)) 32 rest refl
core_read (Number number) fits more rest =
    by_other (codes "0x") (decimal number ++ 32 ∷ rest) (number_in 16 (λ w. more (Mpidr w)))
    (number_in 10 (λ n. more (Number n)) (decimal number ++ 32 ∷ rest))
    (no_prefix (decimal number) 32 rest refl (decimal_small number fits) (decimal_some number fits))
    ∙ decimal_read number fits (λ n. more (Number n)) 32 rest refl

-- Frames ----------------------------------------------------------------------------------------

small_byte : (byte : ℕ) → byte < 256
    → AreDigits 16 (byte_text byte)
small_byte byte h = (
  small_glyph 16 (byte / 16) (omega arith) (omega arith),
  (small_glyph 16 (byte % 16) (omega arith) (omega arith), tt),
)

small_with : (byte : ℕ) (text : List ℕ) → byte < 256
    → AreDigits 16 text
    → AreDigits 16 (with_byte byte text)
small_with byte [] h all = by_zero (byte == 0)
  where
    by_zero : (t : Bool)
        → AreDigits 16 (if t then [] else byte_text byte)
    by_zero true = tt
    by_zero false = small_byte byte h
small_with byte (code ∷ more) h all =
    ((small_byte byte h).0, ((small_byte byte h).1.0, all))

small_bytes : (frame : List ℕ) → AllByRecursion (λ byte. byte < 256) frame
    → AreDigits 16 (bytes_text frame)
unfolding bytes_text
small_bytes [] all = tt
small_bytes (byte ∷ frame) all =
    small_with byte (bytes_text frame) all.0 (small_bytes frame all.1)

glyph_value : (d : ℕ) → d < 16 → digit_value (digit_glyph false d) ≡ d
glyph_value d h = grind (arith, nat_tests)

two_digits : (byte : ℕ) → byte < 256
    → digit_value (digit_glyph false (byte / 16)) * 16 + digit_value (digit_glyph false (byte % 16))
    ≡ byte
two_digits byte h =
    omega (arith, glyph_value (byte / 16) (omega arith), glyph_value (byte % 16) (omega arith))

-- a byte before others that are read
byte_read : (n byte : ℕ) (text bytes : List ℕ) → byte < 256 → bytes_in n text ≡ Some bytes
    → bytes_in (suc n) (with_byte byte text) ≡ Some (byte ∷ bytes)
byte_read n byte [] bytes h e = by_zero (byte == 0) refl
  where
    by_zero : (t : Bool) → (byte == 0) ≡ t
        → bytes_in (suc n) (if t then [] else byte_text byte) ≡ Some (byte ∷ bytes)
    by_zero true z =
        ap (option_map (λ l. 0 ∷ l)) e ∙ ap (λ b. Some (b ∷ bytes)) (sym (is_zero byte z))
    by_zero false z =
        ap (option_map (λ l. _ ∷ l)) e ∙ ap (λ b. Some (b ∷ bytes)) (two_digits byte h)
byte_read n byte (code ∷ more) bytes h e =
    ap (option_map (λ l. _ ∷ l)) e ∙ ap (λ b. Some (b ∷ bytes)) (two_digits byte h)

bytes_read : (frame : List ℕ) → AllByRecursion (λ byte. byte < 256) frame
    → bytes_in (length frame) (bytes_text frame) ≡ Some frame
unfolding bytes_text
bytes_read [] all = refl
bytes_read (byte ∷ frame) all =
    byte_read (length frame) byte (bytes_text frame) frame all.0 (bytes_read frame all.1)

-- of an empty slot one byte stands there, which is read as if it did not
some_read : (n : ℕ) (text frame : List ℕ) → 0 < n → bytes_in n text ≡ Some frame
    → bytes_in n (some_byte text) ≡ Some frame
some_read zero text frame some e = absurd (omega arith)
some_read (suc n) [] frame some e = e
some_read (suc n) (code ∷ more) frame some e = e

small_some : (text : List ℕ) → AreDigits 16 text
    → (AreDigits 16 (some_byte text))
    × (0 < length (some_byte text))
small_some [] all = ((refl, (refl, tt)), omega arith)
small_some (code ∷ more) all = (all, omega arith)

by_frame : (ds frame : List ℕ) (more : List ℕ → Rest) (text : List ℕ) → 0 < length ds
    → bytes_in 53 ds ≡ Some frame → framed_by ds more text ≡ more frame text
by_frame [] frame more text some e = absurd (omega arith)
by_frame (d ∷ ds) frame more text some e = ap (λ found. framed found more text) e

module _ (frame : List ℕ) (fits : IsFrame frame) where
  frame_digits : (AreDigits 16 (frame_text frame))
      × (0 < length (frame_text frame))
  frame_digits = small_some (bytes_text frame) (small_bytes frame fits.1)

  frame_bytes : bytes_in 53 (frame_text frame) ≡ Some frame
  frame_bytes = some_read 53 (bytes_text frame) frame (omega arith)
      (subst (λ n. bytes_in n (bytes_text frame) ≡ Some frame) fits.0 (bytes_read frame fits.1))

  pub frame_read : (more : List ℕ → Rest) (c : ℕ) (rest : List ℕ) → is_small_digit 16 c ≡ false
      → frame_in more (frame_text frame ++ c ∷ rest) ≡ more frame (c ∷ rest)
  unfolding frame_in
  frame_read more c rest end =
      ap (λ ds. framed_by ds more (behind_digits 16 (frame_text frame ++ c ∷ rest)))
      (run 16 (frame_text frame) c rest frame_digits.0 end)
      ∙ ap (λ text. framed_by (frame_text frame) more text)
      (behind_run 16 (frame_text frame) c rest frame_digits.0 end)
      ∙ by_frame (frame_text frame) frame more (c ∷ rest) frame_digits.1 frame_bytes

  -- a frame is none of these words
  pub frame_is_other : (c : ℕ) (word text : List ℕ) (more : Rest) (other : Option Event)
      → is_small_digit 16 c ≡ false
      → either (behind (c ∷ word) (frame_text frame ++ text)) more other ≡ other
  frame_is_other c word text more other end =
      by_other (c ∷ word) (frame_text frame ++ text) more other
      (other_word 16 c word (frame_text frame) text end frame_digits.1 frame_digits.0)
