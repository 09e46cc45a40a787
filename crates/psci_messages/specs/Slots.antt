-- Outstanding messages: the slots that hold them, and what a history of changes says is in each.
use Rattle.std.specs.Prelude.{ℕ, ◌<◌, Bool, true, false, ◌&&◌, ◌||◌, not, ◌==◌, nat_le, nat_lt}
use Rattle.std.specs.Prelude.{List, [], ◌∷◌, length, replicate, slice_set, slice_index_or}
use Rattle.std.specs.Prelude.{if◌then◌else◌, Option, Some, None}
use Rattle.psci_board.specs.declared.draft.Core.{Core}
use Rattle.psci_messages.specs.declared.kind.Kind.{Kind}
use Rattle.psci_messages.specs.declared.kind.Kind.TheVariants.{Down, Start, Off, Reset}
use Rattle.psci_messages.specs.declared.taken.Taken.{Taken}
use Rattle.psci_messages.specs.declared.taken.Taken.TheVariants.{Used, Old}
use Rattle.psci_messages.specs.Message.{MessageValue, AckValue}

-- what contracts see of the slots: one of each core, and one of the system
pub record SlotsValue : Type 0 where
  pub cores : List (Option MessageValue)
  pub system : Option MessageValue

-- where a message is while it is outstanding
pub data Slot : Type 0 where
  OfCore : ℕ → Slot
  OfSystem : Slot

-- the slot of a message of this kind and core
abbrev pub slot_of : Kind → Core → Slot
slot_of Down core = OfCore core.number
slot_of Start core = OfCore core.number
slot_of Off core = OfSystem
slot_of Reset core = OfSystem

-- both are the same slot
abbrev pub is_slot : Slot → Slot → Bool
is_slot (OfCore c) (OfCore d) = c == d
is_slot (OfCore c) OfSystem = false
is_slot OfSystem (OfCore d) = false
is_slot OfSystem OfSystem = true

-- Acknowledgements ----------------------------------------------------------------------------

-- both are the same kind
abbrev pub is_kind : Kind → Kind → Bool
is_kind Down Down = true
is_kind Start Start = true
is_kind Off Off = true
is_kind Reset Reset = true
is_kind k l = false

-- the acknowledgement is of this message: it has its kind, core, life and number
abbrev pub answers : AckValue → MessageValue → Bool
answers a m = is_kind a.kind m.kind
    && (a.core.number == m.core.number && (a.life == m.life && a.number == m.number))

-- nothing of the message is left to do: it is out of date, or no Down, or all parts were applied
abbrev pub is_done : AckValue → MessageValue → Bool
is_done a m = a.stale || (not (is_kind a.kind Down) || nat_le (length m.parts) a.applied)

-- The map from slots to messages --------------------------------------------------------------

-- the message in a slot
abbrev pub message_in : SlotsValue → Slot → Option MessageValue
message_in s (OfCore c) = slice_index_or s.cores c None
message_in s OfSystem = s.system

-- the slots with this in one of them
abbrev pub with_message : SlotsValue → Slot → Option MessageValue → SlotsValue
with_message s (OfCore c) o = record { cores = slice_set s.cores c o; system = s.system }
with_message s OfSystem o = record { cores = s.cores; system = o }

-- nothing is outstanding
abbrev pub no_messages : ℕ → SlotsValue
no_messages cores = record { cores = replicate cores None; system = None }

-- the slots by number: the cores, then the system
abbrev pub message_at : SlotsValue → ℕ → Option MessageValue
message_at s i =
    if nat_lt i (length s.cores) then message_in s (OfCore i)
    else (if i == length s.cores then message_in s OfSystem else None)

-- the message that an acknowledgement is of, where this is in its slot
abbrev pub answered : AckValue → Option MessageValue → Option MessageValue
answered a None = None
answered a (Some m) = if answers a m then Some m else None

-- what an acknowledgement leaves in the slot of its message
abbrev pub left_by : AckValue → Option MessageValue → Option MessageValue
left_by a None = None
left_by a (Some m) = if answers a m && is_done a m then None else Some m

-- what is said of an acknowledgement where this is in its slot
abbrev pub taken : AckValue → Option MessageValue → Taken
taken a None = Old
taken a (Some m) = if answers a m then Used else Old

-- what happens to outstanding messages
pub data Change : Type 0 where
  -- a message is sent
  Put : MessageValue → Change
  -- a core enters
  Clear : Core → Change
  -- a life begins
  ClearAll : Change
  -- an acknowledgement arrives
  Acknowledge : AckValue → Change

-- the slots after a change
abbrev pub after_change : SlotsValue → Change → SlotsValue
after_change s (Put m) = with_message s (slot_of m.kind m.core) (Some m)
after_change s (Clear core) = with_message s (OfCore core.number) None
after_change s ClearAll = no_messages (length s.cores)
after_change s (Acknowledge a) =
    let slot = slot_of a.kind a.core in with_message s slot (left_by a (message_in s slot))

-- what a change leaves in a slot that holds this
abbrev pub changed : Slot → Change → Option MessageValue → Option MessageValue
changed slot (Put m) o = if is_slot (slot_of m.kind m.core) slot then Some m else o
changed slot (Clear core) o = if is_slot (OfCore core.number) slot then None else o
changed slot ClearAll o = None
changed slot (Acknowledge a) o = if is_slot (slot_of a.kind a.core) slot then left_by a o else o

-- the slots after these changes, the last one first
unfoldable pub after_all : ℕ → List Change → SlotsValue
after_all cores [] = no_messages cores
after_all cores (change ∷ changes) = after_change (after_all cores changes) change

-- a message of a core is for a core that has a slot
abbrev pub IsOfCores : ℕ → Slot → Type 0
IsOfCores cores (OfCore c) = c < cores
IsOfCores cores OfSystem = Unit {0}
