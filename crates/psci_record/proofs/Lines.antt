-- What is read of each kind of line.
use Rattle.std.specs.Fmt.{decimal, digit_glyph, digits, digits_onto}
use Rattle.std.proofs.Common.{◌%◌, ◌*◌, ◌++◌, ◌+◌, ◌/◌, ◌<◌, ◌==◌, ◌^◌, ◌∙◌, ◌∷◌, ◌≡◌, ◌≤◌, [], ap}
use Rattle.std.proofs.Common.{append_assoc, arith, codes}
use Rattle.std.proofs.Common.{Bool, false, if◌then◌else◌, length, List, None, Option, refl, Some}
use Rattle.std.proofs.Common.{suc, true, zero, ℕ}
use Rattle.std.proofs.Math.Nat.{pow-suc}
use Rattle.std.proofs.lemmas.Bool.Decides.{nat_tests}
use Rattle.psci_record.specs.Texts.{base, core_text, frame_text, message_text}
use Rattle.psci_record.specs.Texts.{next_text, outcome_text, places, polled_text, reply_text}
use Rattle.psci_record.specs.Texts.{taken_text}
use Rattle.psci_record.specs.Reading.{core_in, ended, Event, frame_in, IsEvent, IsFrame, IsNamed}
use Rattle.psci_record.specs.Reading.{IsNext}
use Rattle.psci_record.specs.Reading.{IsOutcome, IsPolled, IsReply, IsSent, IsTaken, IsWord}
use Rattle.psci_record.specs.Reading.{is_small_digit, line, message_in, next_in, number_in}
use Rattle.psci_record.specs.Reading.{outcome_in}
use Rattle.psci_record.specs.Reading.{polled_in, read, reply_in, Rest, taken_in}
use Rattle.psci_record.specs.Reading.{Begins, Call, Deliver, Enter, Leaves, Poll, Reset, Stands}
use Rattle.psci_record.specs.Reading.{Take}
use Rattle.psci_record.specs.Reading.{Wake}
use Rattle.psci_record.specs.declared.digits.Radix.{Radix}
use Rattle.psci_record.specs.declared.digits.Radix.TheVariants.{Decimal, Hexadecimal}
use Rattle.psci_record.specs.declared.line.Named.{Named}
use Rattle.psci_record.specs.declared.line.Next.{Next}
use Rattle.psci_record.specs.declared.line.Next.TheVariants as nexts
use Rattle.psci_record.specs.declared.line.Outcome.{Outcome}
use Rattle.psci_record.specs.declared.line.Polled.{Polled}
use Rattle.psci_record.specs.declared.line.Polled.TheVariants as polls
use Rattle.psci_record.specs.declared.line.Reply.{Reply}
use Rattle.psci_record.specs.declared.line.Reply.TheVariants as replies
use Rattle.psci_record.specs.declared.line.Taken.{Taken}
use Rattle.psci_record.specs.declared.line.Taken.TheVariants as takes
use Rattle.psci_record.proofs.RadixDigits.{less}
use Rattle.psci_record.proofs.Runs.{code_read, core_read, decimal_read, frame_is_other, frame_read}
use Rattle.psci_record.proofs.Runs.{hexadecimal_read}

-- A part of a line before the others, and the line feed ---------------------------------------

core_then : (core : Named) → IsNamed core → (more : Named → Rest) (rest : List ℕ)
    → core_in more ((core_text core ++ 32 ∷ rest) ++ 10 ∷ [])
    ≡ more core (32 ∷ (rest ++ 10 ∷ []))
core_then core fits more rest =
    ap (core_in more) (append_assoc (core_text core) (32 ∷ rest) (10 ∷ []))
    ∙ core_read core fits more (rest ++ 10 ∷ [])

word_then : (word : ℕ) → IsWord word → (more : ℕ → Rest) (rest : List ℕ)
    → number_in 16 more ((digits 16 false word ++ 32 ∷ rest) ++ 10 ∷ [])
    ≡ more word (32 ∷ (rest ++ 10 ∷ []))
word_then word fits more rest =
    ap (number_in 16 more) (append_assoc (digits 16 false word) (32 ∷ rest) (10 ∷ []))
    ∙ hexadecimal_read word fits more 32 (rest ++ 10 ∷ []) refl

number_then : (n : ℕ) → n < 2 ^ 32 → (more : ℕ → Rest) (rest : List ℕ)
    → number_in 10 more ((decimal n ++ 32 ∷ rest) ++ 10 ∷ [])
    ≡ more n (32 ∷ (rest ++ 10 ∷ []))
number_then n fits more rest =
    ap (number_in 10 more) (append_assoc (decimal n) (32 ∷ rest) (10 ∷ []))
    ∙ decimal_read n (omega arith) more 32 (rest ++ 10 ∷ []) refl

frame_then : (frame : List ℕ) → IsFrame frame → (more : List ℕ → Rest) (rest : List ℕ)
    → frame_in more ((frame_text frame ++ 32 ∷ rest) ++ 10 ∷ [])
    ≡ more frame (32 ∷ (rest ++ 10 ∷ []))
frame_then frame fits more rest =
    ap (frame_in more) (append_assoc (frame_text frame) (32 ∷ rest) (10 ∷ []))
    ∙ frame_read frame fits more 32 (rest ++ 10 ∷ []) refl

-- Answers, before the line feed -----------------------------------------------------------------

next_read : (next : Next) → IsNext next → (more : Next → Rest) (c : ℕ) (rest : List ℕ)
    → is_small_digit 10 c ≡ false → is_small_digit 16 c ≡ false
    → next_in more (next_text next ++ c ∷ rest) ≡ more next (c ∷ rest)
next_read (nexts.Return code) fits more c rest ten sixteen =
    code_read code fits (λ n. more (nexts.Return n)) c rest ten
next_read nexts.Stop fits more c rest ten sixteen = refl
next_read (nexts.Enter address context) fits more c rest ten sixteen =
    ap (number_in 16 _) (append_assoc (digits 16 false address)
    (32 ∷ 48 ∷ 120 ∷ digits 16 false context) (c ∷ rest))
    ∙ hexadecimal_read address fits.0 _ 32 _ refl
    ∙ hexadecimal_read context fits.1 _ c rest sixteen
next_read nexts.Resume fits more c rest ten sixteen = refl
next_read (nexts.Refused number) fits more c rest ten sixteen =
    decimal_read number (omega arith) (λ n. more (nexts.Refused n)) c rest ten

sent_read : (next : Next) (message : Option (List ℕ)) → IsNext next → IsSent message
    → (more : Outcome → Rest)
    → outcome_in more ((next_text next ++ message_text message) ++ 10 ∷ [])
    ≡ more (record { next = next; message = message }) (10 ∷ [])
sent_read next None fits sent more =
    ap (outcome_in more) (append_assoc (next_text next) [] (10 ∷ []))
    ∙ next_read next fits
    (λ n. message_in (λ m. more (record { next = n; message = m }))) 10 [] refl refl
sent_read next (Some frame) fits sent more =
    ap (outcome_in more) (append_assoc (next_text next) (32 ∷ frame_text frame) (10 ∷ []))
    ∙ next_read next fits (λ n. message_in (λ m. more (record { next = n; message = m })))
    32 (frame_text frame ++ 10 ∷ []) refl refl
    ∙ frame_read frame sent (λ f. more (record { next = next; message = Some f })) 10 [] refl

outcome_read : (outcome : Outcome) → IsOutcome outcome → (more : Outcome → Rest)
    → outcome_in more (outcome_text outcome ++ 10 ∷ []) ≡ more outcome (10 ∷ [])
outcome_read outcome fits = sent_read outcome.next outcome.message fits.0 fits.1

polled_read : (polled : Polled) → IsPolled polled → (more : Polled → Rest)
    → polled_in more (polled_text polled ++ 10 ∷ []) ≡ more polled (10 ∷ [])
polled_read (polls.Code code) fits more = code_read code fits (λ n. more (polls.Code n)) 10 [] refl
polled_read (polls.Refused number) fits more =
    decimal_read number (omega arith) (λ n. more (polls.Refused n)) 10 [] refl

taken_read : (taken : Taken) → IsTaken taken → (more : Taken → Rest)
    → taken_in more (taken_text taken ++ 10 ∷ []) ≡ more taken (10 ∷ [])
taken_read takes.Used fits more = refl
taken_read takes.Old fits more = refl
taken_read (takes.Refused number) fits more =
    decimal_read number (omega arith) (λ n. more (takes.Refused n)) 10 [] refl

reply_read : (reply : Reply) → IsReply reply → (more : Reply → Rest)
    → reply_in more (reply_text reply ++ 10 ∷ []) ≡ more reply (10 ∷ [])
reply_read (replies.Acknowledged frame) fits more =
    frame_is_other frame fits 115 (codes "tarted ") (10 ∷ []) _ _ refl
    ∙ frame_is_other frame fits 105 (codes "gnored") (10 ∷ []) _ _ refl
    ∙ frame_is_other frame fits 114 (codes "efused ") (10 ∷ []) _ _ refl
    ∙ frame_read frame fits (λ f. more (replies.Acknowledged f)) 10 [] refl
reply_read (replies.Started number) fits more =
    decimal_read number (omega arith) (λ n. more (replies.Started n)) 10 [] refl
reply_read replies.Ignored fits more = refl
reply_read (replies.Refused number) fits more =
    decimal_read number (omega arith) (λ n. more (replies.Refused n)) 10 [] refl

-- Lines -----------------------------------------------------------------------------------------

pub lines_read : (event : Event) → IsEvent event → read (line event) ≡ Some event
lines_read (Call core regs outcome) fits =
    core_then core fits.0 _ _
    ∙ word_then regs.x0 fits.1.0 _ _ ∙ word_then regs.x1 fits.1.1 _ _
    ∙ word_then regs.x2 fits.1.2 _ _ ∙ word_then regs.x3 fits.1.3 _ _
    ∙ outcome_read outcome fits.2 (λ o. ended (Call core regs o))
lines_read (Poll core x0 x1 x2 polled) fits =
    core_then core fits.0 _ _ ∙ word_then x0 fits.1 _ _ ∙ word_then x1 fits.2 _ _
    ∙ word_then x2 fits.3 _ _ ∙ polled_read polled fits.4 (λ p. ended (Poll core x0 x1 x2 p))
lines_read (Enter core started outcome) fits =
    core_then core fits.0 _ _ ∙ number_then started.life fits.1.0 _ _
    ∙ number_then started.number fits.1.1 _ _ ∙ number_then started.cause fits.1.2 _ _
    ∙ outcome_read outcome fits.2 (λ o. ended (Enter core started o))
lines_read (Leaves core x0) fits =
    core_then core fits.0 _ _ ∙ hexadecimal_read x0 fits.1 _ 10 [] refl
lines_read (Begins core begun) fits =
    core_then core fits.0 _ _ ∙ word_then begun.address fits.1.0 _ _
    ∙ word_then begun.x0 fits.1.1 _ _ ∙ word_then begun.spsr fits.1.2 _ _
    ∙ hexadecimal_read begun.sctlr fits.1.3 _ 10 [] refl
lines_read (Take frame taken) fits =
    frame_then frame fits.0 _ _ ∙ taken_read taken fits.1 (λ t. ended (Take frame t))
lines_read (Stands core number) fits =
    core_then core fits.0 _ _ ∙ decimal_read number (omega (arith, fits.1)) _ 10 [] refl
lines_read (Deliver frame reply) fits =
    frame_then frame fits.0 _ _ ∙ reply_read reply fits.1 (λ r. ended (Deliver frame r))
lines_read (Wake core number reply) fits =
    core_then core fits.0 _ _ ∙ number_then number fits.1 _ _
    ∙ reply_read reply fits.2 (λ r. ended (Wake core number r))
lines_read (Reset core reply) fits =
    core_then core fits.0 _ _ ∙ reply_read reply fits.1 (λ r. ended (Reset core r))

-- Places ----------------------------------------------------------------------------------------

-- a number below the base has one digit
one_digit : (r : Radix) (n : ℕ) → (n / base r == 0) ≡ false → n < base r ^ 0 * base r → ⊥
one_digit Decimal n e h = grind (arith, nat_tests)
one_digit Hexadecimal n e h = grind (arith, nat_tests)

-- a number below a power has at most so many digits
few_onto : (r : Radix) (k i n : ℕ) (acc : List ℕ) → n < base r ^ suc i
    → length (digits_onto k (base r) false n acc) ≤ suc i + length acc
few_onto r zero i n acc h = omega arith
few_onto r (suc k) zero n acc h = by_rest (n / base r == 0) refl
  where
    by_rest : (t : Bool) → (n / base r == 0) ≡ t
        → length (if t then digit_glyph false (n % base r) ∷ acc
        else digits_onto k (base r) false (n / base r) (digit_glyph false (n % base r) ∷ acc))
        ≤ 1 + length acc
    by_rest true e = omega arith
    by_rest false e = absurd (one_digit r n e (omega (arith, h, pow-suc (base r) 0)))
few_onto r (suc k) (suc j) n acc h =
    let smaller : n / base r < base r ^ suc j =
    less r n (base r ^ suc j) (omega (arith, h, pow-suc (base r) (suc j))) in
    by_rest (n / base r == 0)
    (few_onto r k j (n / base r) (digit_glyph false (n % base r) ∷ acc) smaller)
  where
    by_rest : (t : Bool)
        → length (digits_onto k (base r) false (n / base r) (digit_glyph false (n % base r) ∷ acc))
        ≤ suc j + suc (length acc)
        → length (if t then digit_glyph false (n % base r) ∷ acc
        else digits_onto k (base r) false (n / base r) (digit_glyph false (n % base r) ∷ acc))
        ≤ suc (suc j) + length acc
    by_rest true few = omega arith
    by_rest false few = omega arith

pub few_places : (r : Radix) (n : ℕ) → n < 2 ^ 64 → length (digits (base r) false n) ≤ places r
unfolding digits
few_places Decimal n h = few_onto Decimal 64 19 n [] (omega arith)
few_places Hexadecimal n h = few_onto Hexadecimal 64 15 n [] (omega arith)

pub ruleset read_laws = (lines_read, few_places)
