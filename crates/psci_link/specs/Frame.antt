-- Frames: how each is spelled in bytes, and the first fault of bytes that spell none.
use Rattle.std.specs.Prelude.{◌&&◌, ◌*◌, ◌++◌, ◌+◌, ◌-◌, ◌<◌, ◌==◌, ◌^◌, ◌∷◌, ◌≡◌, [], Bool}
use Rattle.std.specs.Prelude.{drop, flat_map, if◌then◌else◌, length, List, nat_le, nat_lt, None}
use Rattle.std.specs.Prelude.{not, Option, replicate, slice_index, slice_range, Some, suc, true}
use Rattle.std.specs.Prelude.{zero, ℕ}
use Rattle.std.specs.List.{list_all, AllByRecursion}
use Rattle.std.specs.Int.{w32, w64, to_be_bytes, from_be_bytes}
use Rattle.psci_board.specs.declared.draft.Core.{Core}
use Rattle.psci_board.specs.Board.{BoardValue, cores, height}
use Rattle.psci_messages.specs.psci_state.PowerState.{power_down}
use Rattle.psci_messages.specs.declared.part.Part.{Part}
use Rattle.psci_link.specs.declared.encoding.TheConstants.{FRAME_LEN, HEADER_LEN, PART_LEN}
use Rattle.psci_messages.specs.declared.parts.TheConstants.{MOST_PARTS}
use Rattle.psci_messages.specs.declared.kind.Kind.{Kind}
use Rattle.psci_messages.specs.declared.kind.Kind.TheVariants.{Down, Start, Off, Reset}
use Rattle.psci_link.specs.declared.parts.FrameFault.{FrameFault}
use Rattle.psci_link.specs.declared.parts.FrameFault.TheVariants as faults
use Rattle.psci_link.specs.declared.encoding.Frame.{Frame}
use Rattle.psci_link.specs.declared.encoding.Frame.TheVariants.{Message, Ack}
use Rattle.psci_link.specs.declared.decoding.Heading.{Heading}
use Rattle.psci_link.specs.declared.decoding.Heading.TheVariants as headings
use Rattle.psci_messages.specs.Message.{AckValue, is_climbing, is_falling, IsAck, IsMessage}
use Rattle.psci_messages.specs.Message.{MessageValue}
use Rattle.psci_link.specs.Heading.{is_magic, heading_of, allows_count, parts_of, IsHeld}

-- Spelling ------------------------------------------------------------------------------------

-- the low half of a kind byte
abbrev pub kind_code : Kind → ℕ
kind_code Down = 1
kind_code Start = 2
kind_code Off = 3
kind_code Reset = 4

-- the kind byte: an acknowledgement has 1 in its high half, or 2 where it is stale
abbrev pub kind_byte : Frame → ℕ
kind_byte (Message m) = kind_code m.kind
kind_byte (Ack a) = (if a.stale then 32 else 16) + kind_code a.kind

-- what the kind byte says
abbrev pub heading_for : Frame → Heading
heading_for (Message m) = headings.Message m.kind
heading_for (Ack a) = headings.Ack a.kind a.stale

-- the bytes before the parts
abbrev pub header : ℕ → Core → ℕ → ℕ → ℕ → List ℕ
header kind core life number count =
    0x50 ∷ 0x44 ∷ kind ∷ core.number ∷ to_be_bytes w32 life ++
    (to_be_bytes w32 number ++ count ∷ [])

-- a part in its field of ten bytes
abbrev pub part_bytes : Part → List ℕ
part_bytes p = p.level ∷ p.depth ∷ to_be_bytes w64 p.generation

-- the parts in the first of four fields, and zeros in the others
unfoldable pub part_fields : List Part → List ℕ
part_fields ps = flat_map part_bytes ps ++ replicate (PART_LEN * (MOST_PARTS - length ps)) 0

-- the 53 bytes of a frame
abbrev pub frame_bytes : Frame → List ℕ
frame_bytes (Message m) =
    header (kind_byte (Message m)) m.core m.life m.number (length m.parts) ++ part_fields m.parts
frame_bytes (Ack a) = header (kind_byte (Ack a)) a.core a.life a.number a.applied ++ part_fields []

-- What has a spelling -------------------------------------------------------------------------

-- numbers that their bytes can hold
pub record MessageFits (m : MessageValue) : Type 0 where
  pub message : IsMessage m
  pub life : m.life < 2 ^ 32
  pub number : m.number < 2 ^ 32
  pub generations : AllByRecursion (λ p. p.generation < 2 ^ 64) m.parts

-- the same of an acknowledgement
pub record AckFits (a : AckValue) : Type 0 where
  pub ack : IsAck a
  pub life : a.life < 2 ^ 32
  pub number : a.number < 2 ^ 32

-- a frame that can be spelled
abbrev pub IsFrame : Frame → Type 0
IsFrame (Message m) = MessageFits m
IsFrame (Ack a) = AckFits a

-- no part is for a level above the height
abbrev pub is_within : ℕ → List Part → Bool
is_within height ps = list_all (λ p. nat_le p.level height) ps

-- the board has the core and the levels of the frame
abbrev pub IsOf : BoardValue → Frame → Type 0
IsOf b (Message m) = (m.core.number < cores b) × (is_within (height b) m.parts ≡ true)
IsOf b (Ack a) = a.core.number < cores b

-- Reading -------------------------------------------------------------------------------------

-- each is a byte; past the end stand zeros
abbrev pub AreBytes : List ℕ → Type 0
AreBytes bytes = (i : ℕ) → slice_index bytes i < 256

-- the part in the field that these bytes begin with
abbrev pub part_in : List ℕ → Part
part_in bytes = record {
  level = slice_index bytes 0;
  depth = slice_index bytes 1;
  generation = from_be_bytes w64 (slice_range bytes 2 10);
}

-- the parts in so many fields
abbrev pub parts_in : ℕ → List ℕ → List Part
parts_in zero bytes = []
parts_in (suc n) bytes = part_in bytes ∷ parts_in n (drop PART_LEN bytes)

-- the number of four bytes that begins at this one
abbrev pub word_at : List ℕ → ℕ → ℕ
word_at bytes start = from_be_bytes w32 (slice_range bytes start (start + 4))

-- the four part fields
abbrev pub part_fields_in : List ℕ → List ℕ
part_fields_in bytes = drop HEADER_LEN bytes

-- the count
abbrev pub count_in : List ℕ → ℕ
count_in bytes = slice_index bytes 12

-- these bytes hold what a frame of this kind keeps
abbrev pub IsHeldIn : Heading → List ℕ → Type 0
IsHeldIn h bytes =
    IsHeld h (count_in bytes) (parts_in (parts_of h (count_in bytes)) (part_fields_in bytes))

-- the frame of this kind that these bytes hold
unfoldable pub frame_in : Heading → List ℕ → Frame
frame_in (headings.Message kind) bytes = Message (record {
  kind = kind;
  core = record { number = slice_index bytes 3 };
  life = word_at bytes 4;
  number = word_at bytes 8;
  parts = parts_in (count_in bytes) (part_fields_in bytes);
})
frame_in (headings.Ack kind stale) bytes = Ack (record {
  kind = kind;
  core = record { number = slice_index bytes 3 };
  life = word_at bytes 4;
  number = word_at bytes 8;
  applied = count_in bytes;
  stale = stale;
})

-- Faults --------------------------------------------------------------------------------------

-- each byte of the part fields after so many is zero
abbrev pub is_unused_after : ℕ → List ℕ → Bool
is_unused_after n bytes = list_all (λ byte. byte == 0) (drop (PART_LEN * n) (part_fields_in bytes))

-- the first fault of the parts of a frame
abbrev pub fault_of_parts : BoardValue → List Part → Option FrameFault
fault_of_parts b parts =
    if not (is_falling power_down parts) then Some faults.Depth
    else (if not (is_climbing 0 parts && is_within (height b) parts) then Some faults.Level
    else None)

-- the first fault of bytes of this kind
unfoldable pub fault_of_kind : BoardValue → List ℕ → Heading → Option FrameFault
fault_of_kind b bytes heading =
    let n = parts_of heading (count_in bytes) in
    if not (allows_count heading (count_in bytes)) then Some faults.Count
    else (if not (is_unused_after n bytes) then Some faults.Unused
    else (if not (nat_lt (slice_index bytes 3) (cores b)) then Some faults.Core
    else fault_of_parts b (parts_in n (part_fields_in bytes))))

-- the first fault, where the kind byte says this
abbrev pub fault_at : BoardValue → List ℕ → Option Heading → Option FrameFault
fault_at b bytes None = Some faults.Kind
fault_at b bytes (Some heading) = fault_of_kind b bytes heading

-- the first fault of bytes, where they are no frame of the board
unfoldable pub first_fault : BoardValue → List ℕ → Option FrameFault
first_fault b bytes =
    if not (length bytes == FRAME_LEN) then Some faults.Length
    else (if not (is_magic bytes) then Some faults.Magic
    else fault_at b bytes (heading_of (slice_index bytes 2)))
