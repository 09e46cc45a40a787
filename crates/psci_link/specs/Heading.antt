-- What the kind byte of a frame says, and which counts go with it.
use Rattle.std.specs.Prelude.{◌≡◌, length, slice_index, ℕ, ◌/◌, ◌%◌, ◌≤◌, List, Bool, true, false}
use Rattle.std.specs.Prelude.{◌&&◌, ◌==◌, nat_le, if◌then◌else◌, Option, Some, None}
use Rattle.std.specs.Prelude.{option_and_then}
use Rattle.psci_messages.specs.declared.part.Part.{Part}
use Rattle.psci_messages.specs.declared.parts.TheConstants.{MOST_PARTS}
use Rattle.psci_link.specs.declared.encoding.TheConstants.{FRAME_LEN}
use Rattle.psci_messages.specs.declared.kind.Kind.{Kind}
use Rattle.psci_messages.specs.declared.kind.Kind.TheVariants.{Down, Start, Off, Reset}
use Rattle.psci_link.specs.declared.decoding.Heading.{Heading}
use Rattle.psci_link.specs.declared.decoding.Heading.TheVariants.{Message, Ack}
use Rattle.psci_messages.specs.Message.{ArePartsOf, most_applied}

-- the first two bytes of a frame
abbrev pub is_magic : List ℕ → Bool
is_magic bytes = slice_index bytes 0 == 0x50 && slice_index bytes 1 == 0x44

-- the kind that the low half of a kind byte names
abbrev pub kind_of : ℕ → Option Kind
kind_of code =
    if code == 1 then Some Down
    else (if code == 2 then Some Start
    else (if code == 3 then Some Off
    else (if code == 4 then Some Reset
    else None)))

-- the high half: a message, an acknowledgement, or a stale one
abbrev pub heading_with : ℕ → Kind → Option Heading
heading_with high kind =
    if high == 0 then Some (Message kind)
    else (if high == 1 then Some (Ack kind false)
    else (if high == 2 then Some (Ack kind true)
    else None))

-- what a kind byte says
abbrev pub heading_of : ℕ → Option Heading
heading_of byte = option_and_then (heading_with (byte / 16)) (kind_of (byte % 16))

-- how many parts a message has at least
abbrev pub least_parts : Kind → ℕ
least_parts Down = 1
least_parts Start = 0
least_parts Off = 0
least_parts Reset = 0

-- and at most
abbrev pub most_parts : Kind → ℕ
most_parts Down = MOST_PARTS
most_parts Start = 0
most_parts Off = 0
most_parts Reset = 0

-- the counts that a frame may have: its parts, or how many were applied
abbrev pub allows_count : Heading → ℕ → Bool
allows_count (Message kind) n = nat_le (least_parts kind) n && nat_le n (most_parts kind)
allows_count (Ack kind stale) n = nat_le n (most_applied kind)

-- how many part fields a frame of this count uses
abbrev pub parts_of : Heading → ℕ → ℕ
parts_of (Message kind) n = n
parts_of (Ack kind stale) n = 0

-- what a frame of this kind keeps of its count and its parts
abbrev pub IsHeld : Heading → ℕ → List Part → Type 0
IsHeld (Message kind) n ps = ArePartsOf kind ps
IsHeld (Ack kind stale) n ps = n ≤ most_applied kind

-- bytes that have the length, the beginning and the kind byte of such a frame
pub record HasHeading (bytes : List ℕ) (h : Heading) : Type 0 where
  pub whole : length bytes ≡ FRAME_LEN
  pub magic : is_magic bytes ≡ true
  pub kind : heading_of (slice_index bytes 2) ≡ Some h
