-- Kind bytes: each says what it was written for, and counts go with parts.
use Rattle.std.specs.Int.{to_be_bytes, w32}
use Rattle.std.specs.Prelude.{◌⊎◌, if◌then◌else◌, nat_le, slice_index, slice_range}
use Rattle.std.proofs.Common.{◌*◌, ◌++◌, ◌+◌, ◌-◌, ◌<◌, ◌∙◌, ◌∷◌, ◌≡◌, ◌≤◌, [], arith, Bool}
use Rattle.std.proofs.Common.{drop, length, List, None, not, Option, refl, Some, sym, true, ℕ}
use Rattle.std.proofs.lemmas.Bool.{and_from, and_parts, eq-eqb, eqb-true, le-leb, leb-true}
use Rattle.std.proofs.lemmas.Bool.{lt-ltb, ltb-true}
use Rattle.std.proofs.lemmas.Bool.Decides.{nat_tests}
use Rattle.std.proofs.lemmas.List.{length-drop, length-take-le, nil_from_length}
use Rattle.std.proofs.lemmas.Nat.{be_bytes_4}
use Rattle.std.proofs.lemmas.Option.{none-some, option_and_then_some, same_Some}
use Rattle.psci_board.specs.Board.{BoardValue, cores, height}
use Rattle.psci_board.specs.declared.draft.TheConstants.{MOST_CORES}
use Rattle.psci_messages.specs.Message.{ArePartsOf, is_climbing, is_falling}
use Rattle.psci_messages.specs.declared.kind.Kind.{Kind}
use Rattle.psci_messages.specs.declared.kind.Kind.TheVariants.{Down, Off, Reset, Start}
use Rattle.psci_messages.specs.declared.part.Part.{Part}
use Rattle.psci_link.specs.Frame.{AreBytes, count_in, fault_at, fault_of_kind, first_fault}
use Rattle.psci_link.specs.Frame.{frame_bytes, frame_in, is_unused_after, is_within, IsOf}
use Rattle.psci_link.specs.Frame.{kind_code, part_fields_in, parts_in, word_at}
use Rattle.psci_link.specs.Heading.{allows_count, HasHeading, heading_of, heading_with, is_magic}
use Rattle.psci_link.specs.Heading.{IsHeld, kind_of, parts_of}
use Rattle.psci_link.specs.declared.parts.FrameFault.{FrameFault}
use Rattle.psci_link.specs.declared.parts.FrameFault.TheVariants as faults
use Rattle.psci_link.specs.declared.decoding.Heading.{Heading}
use Rattle.psci_link.specs.declared.decoding.Heading.TheVariants as headings
use Rattle.psci_link.specs.declared.decoding.Heading.TheVariants.{Ack, Message}
use Rattle.psci_link.proofs.Places.{AreBytes-drop, AreBytes-take, length-parts_in}
use Rattle.psci_link.proofs.Places.{places-written}

-- On a board of 256 cores each value of a byte is the number of a core ----------------------------

-- another fault is said first, and this one by none of the tests after it
other : (t : Bool) (e : FrameFault) (rest : Option FrameFault) → (e ≡ faults.Core → ⊥)
    → (rest ≡ Some faults.Core → ⊥) → (if not t then Some e else rest) ≡ Some faults.Core → ⊥
other t e rest now later said = grind arith

-- the test passes, and no test after it says this fault
passing : (t : Bool) (e : FrameFault) (rest : Option FrameFault) → t ≡ true
    → (rest ≡ Some faults.Core → ⊥) → (if not t then Some e else rest) ≡ Some faults.Core → ⊥
passing t e rest holds later said = grind arith

-- bytes of this kind, where the board has the core
of_kind : (b : BoardValue) (bytes : List ℕ) (h : Heading) → slice_index bytes 3 < cores b
    → fault_of_kind b bytes h ≡ Some faults.Core → ⊥
unfolding fault_of_kind
of_kind b bytes h there = grind (arith, nat_tests, other, passing, lt-ltb, none-some)

of_heading : (b : BoardValue) (bytes : List ℕ) (h : Option Heading) → slice_index bytes 3 < cores b
    → fault_at b bytes h ≡ Some faults.Core → ⊥
of_heading b bytes None there said = cc
of_heading b bytes (Some h) there said = of_kind b bytes h there said

pub each-is-a-core : (b : BoardValue) (bytes : List ℕ) → AreBytes bytes → cores b ≡ MOST_CORES
    → first_fault b bytes ≡ Some faults.Core → ⊥
unfolding first_fault
each-is-a-core b bytes are all = grind (arith, nat_tests, other, of_heading)

pub ruleset core_law = each-is-a-core

-- Faults ------------------------------------------------------------------------------------------
-- The first fault of bytes by the tests that it is made of: where there is none, each test holds

-- What every test says of bytes of this kind that have no fault.
pub record HasNoFault (b : BoardValue) (bytes : List ℕ) (h : Heading) : Type 0 where
  pub allowed : allows_count h (count_in bytes) ≡ true
  pub unused : is_unused_after (parts_of h (count_in bytes)) bytes ≡ true
  pub core : slice_index bytes 3 < cores b
  pub falling : is_falling 3 (parts_in (parts_of h (count_in bytes)) (part_fields_in bytes)) ≡ true
  pub climbing : is_climbing 0 (parts_in (parts_of h (count_in bytes)) (part_fields_in bytes))
      ≡ true
  pub within : is_within (height b) (parts_in (parts_of h (count_in bytes)) (part_fields_in bytes))
      ≡ true

pub passed : (t : Bool) (e : FrameFault) (rest : Option FrameFault)
    → (if not t then Some e else rest) ≡ None
    → (t ≡ true) × (rest ≡ None)
passed t e rest given = grind arith

passes : (t : Bool) (e : FrameFault) (rest : Option FrameFault) → t ≡ true → rest ≡ None
    → (if not t then Some e else rest) ≡ None
passes t e rest holds none = grind arith

pub has-no-fault : (b : BoardValue) (bytes : List ℕ) (h : Heading) → fault_of_kind b bytes h ≡ None
    → HasNoFault b bytes h
unfolding fault_of_kind
has-no-fault b bytes h none = grind (arith, nat_tests, passed, ltb-true, and_parts)

pub is-without-fault : (b : BoardValue) (bytes : List ℕ) (h : Heading) → HasNoFault b bytes h
    → fault_of_kind b bytes h ≡ None
unfolding fault_of_kind
is-without-fault b bytes h holds = grind (arith, nat_tests, passes, lt-ltb, and_from)

pub first_fault-heading : (b : BoardValue) (bytes : List ℕ) (h : Heading) → HasHeading bytes h
    → first_fault b bytes ≡ fault_of_kind b bytes h
unfolding first_fault
first_fault-heading b bytes h has = grind (arith, nat_tests, eq-eqb)

-- bytes have one heading
pub one-heading : (bytes : List ℕ) (h i : Heading) → HasHeading bytes h → HasHeading bytes i → h ≡ i
one-heading bytes h i has also = same_Some h i (sym has.kind ∙ also.kind)

-- bytes without a fault have a heading
pub heading-among : (b : BoardValue) (bytes : List ℕ) (o : Option Heading)
    → fault_at b bytes o ≡ None → (h : Heading) × (o ≡ Some h) × (fault_of_kind b bytes h ≡ None)
heading-among b bytes None none = absurd (none-some _ (sym none))
heading-among b bytes (Some h) none = (h, refl, none)

-- Headings ----------------------------------------------------------------------------------------

-- the kind byte that says this
abbrev pub heading_byte : Heading → ℕ
heading_byte (Message kind) = kind_code kind
heading_byte (Ack kind stale) = (if stale then 32 else 16) + kind_code kind

chosen : {A : Type 0} (t : Bool) (x : A) (rest : Option A) (y : A)
    → (if t then Some x else rest) ≡ Some y
    → ((t ≡ true) × (x ≡ y)) ⊎ (rest ≡ Some y)
chosen t x rest y e = grind (arith, same_Some)

kind_of-some : (code : ℕ) (kind : Kind) → kind_of code ≡ Some kind → code ≡ kind_code kind
kind_of-some code kind e = grind (arith, nat_tests, chosen, eqb-true, none-some)

heading_with-some : (high : ℕ) (kind : Kind) (h : Heading) → heading_with high kind ≡ Some h
    → 16 * high + kind_code kind ≡ heading_byte h
heading_with-some high kind h e = grind (arith, nat_tests, chosen, eqb-true, none-some)

-- a byte that says this is the one that is written for it
pub heading_of-some : (byte : ℕ) (h : Heading) → heading_of byte ≡ Some h → byte ≡ heading_byte h
heading_of-some byte h e =
    grind (arith, nat_tests, option_and_then_some, kind_of-some, heading_with-some)

-- the byte that is written for this says it
pub heading_of-byte : (h : Heading) → heading_of (heading_byte h) ≡ Some h
heading_of-byte h = grind (arith, nat_tests)

-- no frame has more than four parts
pub parts_of-few : (h : Heading) (n : ℕ) → allows_count h n ≡ true → parts_of h n ≤ 4
parts_of-few h n e = grind (arith, nat_tests, leb-true, and_parts)

-- what was looked at is what every message and every acknowledgement keeps
none-left : (n : ℕ) (ps : List Part) → length ps ≡ n → n ≤ 0 → ps ≡ []
none-left n ps same few = nil_from_length ps (omega arith)

pub is-held : (h : Heading) (n : ℕ) (ps : List Part) → length ps ≡ parts_of h n
    → allows_count h n ≡ true
    → is_falling 3 ps ≡ true → is_climbing 0 ps ≡ true → IsHeld h n ps
is-held h n ps same allowed falling climbing =
    grind (arith, nat_tests, leb-true, and_parts, nil_from_length)

-- the parts of a message go with its count, and hold what is looked at
pub record Counted (kind : Kind) (ps : List Part) : Type 0 where
  pub few : length ps ≤ 4
  pub allowed : allows_count (Message kind) (length ps) ≡ true
  pub falling : is_falling 3 ps ≡ true
  pub climbing : is_climbing 0 ps ≡ true

nothing-counted : (kind : Kind) (ps : List Part) → ps ≡ [] → allows_count (Message kind) 0 ≡ true
    → Counted kind ps
nothing-counted kind ps none allowed =
    rw none (record { few = omega arith; allowed = allowed; falling = refl; climbing = refl })

pub counted : (kind : Kind) (ps : List Part) → ArePartsOf kind ps → Counted kind ps
counted Down ps held = record {
  few = held.most;
  allowed = and_from (nat_le 1 (length ps)) (nat_le (length ps) 4) (le-leb 1 (length ps) held.some)
      (le-leb (length ps) 4 held.most);
  falling = held.depths;
  climbing = held.levels;
}
counted Start ps held = nothing-counted Start ps held refl
counted Off ps held = nothing-counted Off ps held refl
counted Reset ps held = nothing-counted Reset ps held refl

-- Bytes without a fault are the spelling of the frame that they hold, which is the board's --------

-- the bytes of a frame from their fields
same-fields : {kind k count n : ℕ} {lives ls numbers ns parts ps : List ℕ} (core : ℕ) → kind ≡ k
    → lives ≡ ls → numbers ≡ ns → count ≡ n → parts ≡ ps
    → (0x50 ∷ 0x44 ∷ kind ∷ core ∷ lives ++ (numbers ++ count ∷ [])) ++ parts
    ≡ (0x50 ∷ 0x44 ∷ k ∷ core ∷ ls ++ (ns ++ n ∷ [])) ++ ps
same-fields core a b c d e = cc

-- four bytes of a list, as a number and back
number-written : (bytes : List ℕ) (start : ℕ) → AreBytes bytes → start + 4 ≤ length bytes
    → to_be_bytes w32 (word_at bytes start) ≡ slice_range bytes start (start + 4)
number-written bytes start fits long =
    let four : (start + 4) - start ≡ 4 = omega arith in
    let room : (start + 4) - start ≤ length (drop start bytes)
    = omega (arith, length-drop start bytes) in
    be_bytes_4 (slice_range bytes start (start + 4)) (word_at bytes start)
    (length-take-le ((start + 4) - start) (drop start bytes) room ∙ four)
    (AreBytes-take ((start + 4) - start) (drop start bytes) (AreBytes-drop start bytes fits)) refl

frame-fields : (bytes : List ℕ) → is_magic bytes ≡ true → length bytes ≡ 53
    → (0x50 ∷ 0x44 ∷ slice_index bytes 2 ∷ slice_index bytes 3 ∷ slice_range bytes 4 8
    ++ (slice_range bytes 8 12 ++ count_in bytes ∷ [])) ++ part_fields_in bytes ≡ bytes
frame-fields (a ∷ b ∷ c ∷ d ∷ e ∷ f ∷ g ∷ h ∷ i ∷ j ∷ k ∷ l ∷ m ∷ rest) magic whole =
    grind (arith, nat_tests, and_parts, eqb-true)
frame-fields other magic whole = absurd (omega (arith, whole))

pub frame-written : (b : BoardValue) (bytes : List ℕ) (h : Heading) → AreBytes bytes
    → HasHeading bytes h → HasNoFault b bytes h → frame_bytes (frame_in h bytes) ≡ bytes
unfolding frame_in
frame-written b bytes (headings.Message kind) fits has sound =
    let forty : length (part_fields_in bytes) ≡ 40 =
    omega (arith, length-drop 13 bytes, has.whole) in
    same-fields (slice_index bytes 3)
    (sym (heading_of-some (slice_index bytes 2) (headings.Message kind) has.kind))
    (number-written bytes 4 fits (omega (arith, has.whole)))
    (number-written bytes 8 fits (omega (arith, has.whole)))
    (length-parts_in (count_in bytes) (part_fields_in bytes))
    (places-written (count_in bytes) (part_fields_in bytes) (AreBytes-drop 13 bytes fits) forty
    (parts_of-few (headings.Message kind) (count_in bytes) sound.allowed) sound.unused)
    ∙ frame-fields bytes has.magic has.whole
frame-written b bytes (headings.Ack kind stale) fits has sound =
    let forty : length (part_fields_in bytes) ≡ 40 =
    omega (arith, length-drop 13 bytes, has.whole) in
    same-fields (slice_index bytes 3)
    (sym (heading_of-some (slice_index bytes 2) (headings.Ack kind stale) has.kind))
    (number-written bytes 4 fits (omega (arith, has.whole)))
    (number-written bytes 8 fits (omega (arith, has.whole))) refl
    (places-written 0 (part_fields_in bytes) (AreBytes-drop 13 bytes fits) forty (omega arith)
    sound.unused)
    ∙ frame-fields bytes has.magic has.whole

pub frame-is-of : (b : BoardValue) (bytes : List ℕ) (h : Heading) → HasNoFault b bytes h
    → IsOf b (frame_in h bytes)
unfolding frame_in
frame-is-of b bytes (headings.Message kind) sound = (sound.core, sound.within)
frame-is-of b bytes (headings.Ack kind stale) sound = sound.core
