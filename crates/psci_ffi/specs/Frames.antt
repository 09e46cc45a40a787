-- What becomes of bytes that C gives as an acknowledgement, and a frame as C reads and writes it: a
-- struct of its fields.
use Rattle.std.specs.Prelude.{if◌then◌else◌, ◌&&◌, ◌==◌, ◌∷◌, ◌≡◌, Bool, IsSomeAnd, List, None}
use Rattle.std.specs.Prelude.{Option, Some, [], length, map, nat_le, nat_lt, option_and_then}
use Rattle.std.specs.Prelude.{slice_get, take, true, ℕ}
use Rattle.psci_fw.specs.Reactions.{seen}
use Rattle.psci_status.specs.Lists.{IsWrittenFrom, PolledView}
use Rattle.psci_fw_spec.specs.declared.call.FwCall.TheVariants as calls
use Rattle.psci_fw_spec.specs.declared.reply.FwReply.TheVariants as replies
use Rattle.psci_fw_spec.specs.Effects.{after}
use Rattle.psci_fw_spec.specs.Values.{taken_by}
use Rattle.psci_link.specs.declared.parts.FrameFault.{FrameFault}
use Rattle.psci_link.specs.declared.encoding.Frame.{Frame}
use Rattle.psci_link.specs.declared.encoding.Frame.TheVariants.{Ack, Message}
use Rattle.psci_link.specs.Frame.{IsFrame, IsOf, first_fault, frame_bytes, kind_byte}
use Rattle.psci_messages.specs.Message.{AckValue, MessageValue, is_climbing, is_falling}
use Rattle.psci_messages.specs.Message.{most_applied}
use Rattle.psci_messages.specs.declared.part.Part.{Part}
use Rattle.psci_messages.specs.declared.parts.TheConstants.{MOST_PARTS}
use Rattle.psci_messages.specs.declared.kind.Kind.{Kind}
use Rattle.psci_messages.specs.declared.kind.Kind.TheVariants.{Down, Off, Reset, Start}
use Rattle.psci_state.specs.PowerState.{power_down}
use Rattle.psci_link.specs.declared.decoding.Heading.{Heading}
use Rattle.psci_link.specs.declared.decoding.Heading.TheVariants as headings
use Rattle.psci_link.specs.Heading.{heading_of}
use Rattle.psci_ffi.specs.Codes.{frame_code, no_firmware, not_an_ack, taken_code}
use Rattle.psci_ffi.specs.Namings.{PlaceValue}
use Rattle.psci_ffi.specs.Slots.{Kept}
use Rattle.psci_ffi.specs.declared.answer.SomeFrame.{SomeFrame}
use Rattle.psci_ffi.specs.declared.fields.Fields.{Fields}
use Rattle.psci_ffi.specs.declared.fields.PartFields.{PartFields}
use Rattle.psci_ffi.specs.Shown.{no_frame}

-- bytes with this first fault: its code, and nothing changes
abbrev pub IsFaultyBy : Option FrameFault → ℕ → PolledView → PolledView → Type 0
IsFaultyBy None code old new = Unit {0}
IsFaultyBy (Some fault) code old new = (code ≡ frame_code fault) × (new ≡ old)

-- bytes that are no frame of the board
abbrev pub IsFaulty : List ℕ → ℕ → PolledView → PolledView → Type 0
IsFaulty bytes code old new = IsFaultyBy (first_fault old.firmware.board bytes) code old new

-- these bytes are this frame, of the board
abbrev pub IsRead : PolledView → List ℕ → Frame → Type 0
IsRead f bytes frame = IsFrame frame × IsOf f.firmware.board frame × (frame_bytes frame ≡ bytes)

-- bytes that are the frame of a message: nothing changes
abbrev pub IsMisplaced : MessageValue → List ℕ → ℕ → PolledView → PolledView → Type 0
IsMisplaced m bytes code old new =
    IsRead old bytes (Message m) → (code ≡ not_an_ack) × (new ≡ old)

-- an acknowledgement was taken, and what it changed of the statuses is written
pub record IsTaken (a : AckValue) (code : ℕ) (old new : PolledView) : Type 0 where
  pub answer : code ≡ taken_code (taken_by (seen old.firmware) a)
  pub after : seen new.firmware ≡ after old.firmware.board 0 (calls.Take a)
      (replies.Taken (taken_by (seen old.firmware) a)) (seen old.firmware)
  pub board : new.firmware.board ≡ old.firmware.board
  pub table : new.table ≡ old.table
  pub written : IsWrittenFrom old new

-- bytes that are the frame of an acknowledgement
abbrev pub IsAcknowledged : AckValue → List ℕ → ℕ → PolledView → PolledView → Type 0
IsAcknowledged a bytes code old new = IsRead old bytes (Ack a) → IsTaken a code old new

-- what becomes of bytes that a firmware is given
pub record IsTakenBy (f : PlaceValue) (bytes : List ℕ) (code : ℕ) (g : PlaceValue)
    : Type 0 where
  pub fault : IsFaulty bytes code f.polled g.polled
  pub message : (m : MessageValue) → IsMisplaced m bytes code f.polled g.polled
  pub ack : (a : AckValue) → IsAcknowledged a bytes code f.polled g.polled
  pub machine : g.machine ≡ f.machine

-- the same of a place: an empty one stays so
abbrev pub IsTakenIn : Kept → List ℕ → ℕ → Kept → Type 0
IsTakenIn None bytes code left = (code ≡ no_firmware) × (left ≡ None)
IsTakenIn (Some f) bytes code left = IsSomeAnd left (IsTakenBy f bytes code)

-- Reading --------------------------------------------------------------------------------------

-- a part, or zeros where there is none
abbrev pub part_shown : Option Part → PartFields
part_shown None = record { level = 0; depth = 0; generation = 0 }
part_shown (Some p) = record { level = p.level; depth = p.depth; generation = p.generation }

-- the part at this place
abbrev pub part_at : List Part → ℕ → PartFields
part_at ps place = part_shown (slice_get ps place)

-- the first four parts, and zeros where there are fewer
abbrev pub parts_of : List Part → List PartFields
parts_of ps = part_at ps 0 ∷ part_at ps 1 ∷ part_at ps 2 ∷ part_at ps 3 ∷ []

-- the fields of a frame
abbrev pub fields_of : Frame → Fields
fields_of (Message m) = record {
  kind = kind_byte (Message m);
  count = length m.parts;
  core = m.core.number;
  life = m.life;
  number = m.number;
  parts = parts_of m.parts;
}
fields_of (Ack a) = record {
  kind = kind_byte (Ack a);
  count = a.applied;
  core = a.core.number;
  life = a.life;
  number = a.number;
  parts = parts_of [];
}

-- bytes with this first fault: its number, and nothing is written
abbrev pub IsUnread : Option FrameFault → ℕ → Fields → Fields → Type 0
IsUnread None code old new = Unit {0}
IsUnread (Some fault) code old new = (code ≡ frame_code fault) × (new ≡ old)

-- what is read of bytes on the board of a firmware
pub record IsDecoded (f : PolledView) (bytes : List ℕ) (code : ℕ) (old new : Fields)
    : Type 0 where
  pub fault : IsUnread (first_fault f.firmware.board bytes) code old new
  pub frame : (frame : Frame) → IsRead f bytes frame → (code ≡ 0) × (new ≡ fields_of frame)

-- the same of a place: without a firmware nothing is read
abbrev pub IsDecodedIn : Kept → List ℕ → ℕ → Fields → Fields → Type 0
IsDecodedIn None bytes code old new = (code ≡ no_firmware) × (new ≡ old)
IsDecodedIn (Some f) bytes code old new = IsDecoded f.polled bytes code old new

-- Writing --------------------------------------------------------------------------------------

-- a part of these fields
abbrev pub part_given : PartFields → Part
part_given p = record { level = p.level; depth = p.depth; generation = p.generation }

-- the parts that are counted
abbrev pub parts_given : Fields → List Part
parts_given m = map part_given (take m.count m.parts)

-- a message of this kind may have these parts, of which there are four at most
abbrev pub has_parts : Kind → List Part → Bool
has_parts Down ps = nat_lt 0 (length ps) && is_climbing 0 ps && is_falling power_down ps
has_parts Start ps = length ps == 0
has_parts Off ps = length ps == 0
has_parts Reset ps = length ps == 0

-- the frame of these fields, of what the kind byte says, if there is one
abbrev pub frame_with : Fields → Heading → Option Frame
frame_with m (headings.Message kind) =
    if nat_lt m.core 256 && nat_le m.count MOST_PARTS && has_parts kind (parts_given m)
    then Some (Message (record {
      kind = kind;
      core = record { number = m.core };
      life = m.life;
      number = m.number;
      parts = parts_given m;
    }))
    else None
frame_with m (headings.Ack kind stale) =
    if nat_lt m.core 256 && nat_le m.count (most_applied kind)
    then Some (Ack (record {
      kind = kind;
      core = record { number = m.core };
      life = m.life;
      number = m.number;
      applied = m.count;
      stale = stale;
    }))
    else None

-- the frame of these fields, if there is one
abbrev pub frame_given : Fields → Option Frame
frame_given m = option_and_then (frame_with m) (heading_of m.kind)

-- its bytes, if there is one
abbrev pub frame_spelled : Option Frame → SomeFrame
frame_spelled None = no_frame
frame_spelled (Some frame) = record { some = true; bytes = frame_bytes frame }
