-- The laws of frames: the spelling of a frame of the board has no fault and holds the frame, and
-- bytes without a fault are such a spelling.
use Rattle.std.specs.Prelude.{◌==◌, ◌≤◌, Ok, Result, slice_index}
use Rattle.std.proofs.Common.{◌<◌, ◌^◌, ◌∙◌, ◌≡◌, [], ap, arith, length, List, None, refl, Some}
use Rattle.std.proofs.Common.{sym, ℕ}
use Rattle.std.proofs.lemmas.Bool.{eqb-true, le-leb}
use Rattle.std.proofs.lemmas.Bool.Decides.{nat_tests}
use Rattle.std.proofs.lemmas.Nat.{from_be_bytes-to_be_bytes_4}
use Rattle.std.proofs.lemmas.Option.{none-some}
use Rattle.psci_board.specs.Board.{BoardValue, height}
use Rattle.psci_messages.specs.Message.{is_climbing, is_falling, most_applied}
use Rattle.psci_messages.specs.declared.kind.Kind.{Kind}
use Rattle.psci_link.specs.Frame.{AreBytes, count_in, fault_of_kind, first_fault, frame_bytes}
use Rattle.psci_link.specs.Frame.{frame_in, heading_for, is_within, IsFrame, IsHeldIn, IsOf}
use Rattle.psci_link.specs.Frame.{part_fields_in, parts_in, word_at}
use Rattle.psci_link.specs.Heading.{HasHeading, heading_of, is_magic}
use Rattle.psci_link.specs.declared.parts.FrameFault.{FrameFault}
use Rattle.psci_link.specs.declared.encoding.Frame.{Frame}
use Rattle.psci_link.specs.declared.encoding.Frame.TheVariants.{Ack, Message}
use Rattle.psci_link.specs.declared.decoding.Heading.{Heading}
use Rattle.psci_link.specs.declared.decoding.Heading.TheVariants as headings
use Rattle.psci_link.proofs.Headings.{counted, first_fault-heading, frame-is-of, frame-written}
use Rattle.psci_link.proofs.Headings.{has-no-fault, HasNoFault, heading-among, heading_of-byte}
use Rattle.psci_link.proofs.Headings.{is-held, is-without-fault, one-heading, passed}
use Rattle.psci_link.proofs.Places.{AreBytes-drop, AreBytes-take, four_bytes-fit}
use Rattle.psci_link.proofs.Places.{generations-fit, length-parts_in, length-places}
use Rattle.psci_link.proofs.Places.{parts-in-places, unused-places}

pub spelled-heading : (f : Frame) → IsFrame f → HasHeading (frame_bytes f) (heading_for f)
spelled-heading (Message m) fits = record {
  whole = omega (arith, length-places m.parts (counted m.kind m.parts fits.message.parts).few);
  magic = refl;
  kind = heading_of-byte (headings.Message m.kind);
}
spelled-heading (Ack a) fits = record {
  whole = omega (arith, length-places [] (omega arith));
  magic = refl;
  kind = heading_of-byte (headings.Ack a.kind a.stale);
}

pub spelled-sound : (b : BoardValue) (f : Frame) → IsFrame f → IsOf b f
    → HasNoFault b (frame_bytes f) (heading_for f)
spelled-sound b (Message m) fits of =
    let looked = counted m.kind m.parts fits.message.parts in
    let read = parts-in-places m.parts fits.generations in
    record {
      allowed = looked.allowed;
      unused = unused-places m.parts;
      core = of.0;
      falling = ap (is_falling 3) read ∙ looked.falling;
      climbing = ap (is_climbing 0) read ∙ looked.climbing;
      within = ap (is_within (height b)) read ∙ of.1;
    }
spelled-sound b (Ack a) fits of = record {
  allowed = le-leb a.applied (most_applied a.kind) fits.ack.applied;
  unused = unused-places [];
  core = of;
  falling = refl;
  climbing = refl;
  within = refl;
}

pub spelled-held : (f : Frame) → IsFrame f → frame_in (heading_for f) (frame_bytes f) ≡ f
unfolding frame_in
spelled-held (Message m) fits = rw (
  from_be_bytes-to_be_bytes_4 m.life fits.life,
  from_be_bytes-to_be_bytes_4 m.number fits.number,
  parts-in-places m.parts fits.generations,
)
spelled-held (Ack a) fits = rw (
  from_be_bytes-to_be_bytes_4 a.life fits.life,
  from_be_bytes-to_be_bytes_4 a.number fits.number,
)

-- the bytes of a frame of the board have no fault
pub spelled-faultless : (b : BoardValue) (f : Frame) → IsFrame f → IsOf b f
    → first_fault b (frame_bytes f) ≡ None
spelled-faultless b f fits of =
    first_fault-heading b (frame_bytes f) (heading_for f) (spelled-heading f fits)
    ∙ is-without-fault b (frame_bytes f) (heading_for f) (spelled-sound b f fits of)

-- bytes with a fault are not those of a frame of the board
pub not-refused : (b : BoardValue) (f : Frame) (bytes : List ℕ) (fault : FrameFault) → IsFrame f
    → IsOf b f
    → frame_bytes f ≡ bytes → first_fault b bytes ≡ Some fault → ⊥
not-refused b f bytes fault fits of same refused =
    none-some fault (sym (spelled-faultless b f fits of) ∙ ap (first_fault b) same ∙ refused)

-- what the kind byte of bytes says that spell a frame
pub heading-spelled : (f : Frame) (bytes : List ℕ) (h : Heading) → IsFrame f
    → frame_bytes f ≡ bytes → HasHeading bytes h → h ≡ heading_for f
heading-spelled f bytes h fits same has = grind (arith, nat_tests, one-heading, spelled-heading)

-- bytes that spell a frame hold it
pub is-read : (f : Frame) (bytes : List ℕ) (h : Heading) → IsFrame f → frame_bytes f ≡ bytes
    → HasHeading bytes h
    → frame_in h bytes ≡ f
is-read f bytes h fits same has = grind (arith, nat_tests, heading-spelled, spelled-held)

pub length-spelling : (f : Frame) → IsFrame f → length (frame_bytes f) ≡ 53
length-spelling f fits = (spelled-heading f fits).whole

pub one-frame : (f g : Frame) → IsFrame f → IsFrame g → frame_bytes f ≡ frame_bytes g → f ≡ g
one-frame f g fits also same = grind (arith, nat_tests, is-read, spelled-heading, spelled-held)

number-fits : (bytes : List ℕ) (start : ℕ) → AreBytes bytes → word_at bytes start < 2 ^ 32
number-fits bytes start fits =
    grind (arith, nat_tests, four_bytes-fit, AreBytes-take, AreBytes-drop)

-- what bytes without a fault hold is a frame
frame-fits : (b : BoardValue) (bytes : List ℕ) (h : Heading) → AreBytes bytes → HasNoFault b bytes h
    → IsFrame (frame_in h bytes)
unfolding frame_in
frame-fits b bytes (headings.Message kind) fits sound =
    let n = count_in bytes in
    record {
      message = record {
        core = fits 3;
        parts = is-held (headings.Message kind) n (parts_in n (part_fields_in bytes))
            (length-parts_in n (part_fields_in bytes)) sound.allowed sound.falling sound.climbing;
      };
      life = number-fits bytes 4 fits;
      number = number-fits bytes 8 fits;
      generations = generations-fit n (part_fields_in bytes) (AreBytes-drop 13 bytes fits);
    }
frame-fits b bytes (headings.Ack kind stale) fits sound = record {
  ack = record {
    core = fits 3;
    applied = is-held (headings.Ack kind stale) (count_in bytes) [] refl sound.allowed refl refl;
  };
  life = number-fits bytes 4 fits;
  number = number-fits bytes 8 fits;
}

pub frame-read : (b : BoardValue) (bytes : List ℕ) → AreBytes bytes → first_fault b bytes ≡ None
    → (f : Frame) × IsFrame f × IsOf b f × (frame_bytes f ≡ bytes)
unfolding first_fault
frame-read b bytes fits none =
    let first = passed (length bytes == 53) _ _ none in
    let second = passed (is_magic bytes) _ _ first.1 in
    let third = heading-among b bytes (heading_of (slice_index bytes 2)) second.1 in
    let has : HasHeading bytes third.0
    = record { whole = eqb-true (length bytes) 53 first.0; magic = second.0; kind = third.1 } in
    let sound = has-no-fault b bytes third.0 third.2 in (
      frame_in third.0 bytes,
      frame-fits b bytes third.0 fits sound,
      frame-is-of b bytes third.0 sound,
      frame-written b bytes third.0 fits has sound,
    )

pub ruleset frame_laws = (length-spelling, one-frame, spelled-faultless, frame-read)

-- Reading -----------------------------------------------------------------------------------------
-- What is read of bytes of one kind: what is held is spelled so, and what is refused is not
-- spelled so.

-- what is read is spelled so, and the board's
pub read-whole : (b : BoardValue) (bytes : List ℕ) (h : Heading) → AreBytes bytes
    → HasHeading bytes h → (frame : Frame) → frame ≡ frame_in h bytes → first_fault b bytes ≡ None
    → (frame_bytes frame ≡ bytes) × IsOf b frame
read-whole b bytes h fits has frame held none =
    let sound = has-no-fault b bytes h (sym (first_fault-heading b bytes h has) ∙ none) in
    rw held (frame-written b bytes h fits has sound, frame-is-of b bytes h sound)

-- a frame that is spelled so is read
pub spelled-whole : (bytes : List ℕ) (h : Heading) → HasHeading bytes h → (frame : Frame)
    → frame ≡ frame_in h bytes → (f : Frame) → IsFrame f → frame_bytes f ≡ bytes
    → ◌≡◌ {A = Result Frame FrameFault} (Ok frame) (Ok f)
spelled-whole bytes h has frame held f fits same = ap Ok (held ∙ is-read f bytes h fits same has)

-- a frame that is spelled so has this kind
pub spelled-kind : (bytes : List ℕ) (h : Heading) → HasHeading bytes h → (f : Frame) → IsFrame f
    → frame_bytes f ≡ bytes → ◌≡◌ {A = Result Heading FrameFault} (Ok h) (Ok (heading_for f))
spelled-kind bytes h has f fits same = ap Ok (heading-spelled f bytes h fits same has)

-- bytes without a fault hold what a frame of their kind keeps
pub held-in : (b : BoardValue) (bytes : List ℕ) (h : Heading) → fault_of_kind b bytes h ≡ None
    → IsHeldIn h bytes
held-in b bytes h none = grind (arith, nat_tests, has-no-fault, is-held, length-parts_in)

-- they hold a frame of the board
pub of-board : (b : BoardValue) (bytes : List ℕ) (h : Heading) → fault_of_kind b bytes h ≡ None
    → IsOf b (frame_in h bytes)
of-board b bytes h none = frame-is-of b bytes h (has-no-fault b bytes h none)

-- a message has at most four parts
pub few-held : (kind : Kind) (bytes : List ℕ) → IsHeldIn (headings.Message kind) bytes
    → count_in bytes ≤ 4
few-held kind bytes held = grind (arith, nat_tests, counted, length-parts_in)

-- what a read frame and a refused one are
pub ruleset read_laws = (first_fault-heading, not-refused, held-in, of-board, spelled-kind)
