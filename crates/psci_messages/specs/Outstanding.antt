-- Which message is outstanding after a history of changes, the last change first: the last message
-- that was sent, unless something since then has ended it.
use Rattle.std.specs.Borrow.{Lends}
use Rattle.std.specs.List.{AllByRecursion, list_any}
use Rattle.std.specs.Prelude.{◌&&◌, ◌∷◌, [], Bool, false, if◌then◌else◌, is_none, List, None}
use Rattle.std.specs.Prelude.{Option, option_and_then, Some, true, ℕ}
use base.Fml.{Fml}
use denote.Ref.{MutBor}
use Rattle.psci_messages.specs.Message.{MessageValue}
use Rattle.psci_messages.specs.Slots.{answers, Change, is_done, is_slot, IsOfCores, Slot}
use Rattle.psci_messages.specs.Slots.{slot_of, SlotsValue, with_message}
use Rattle.psci_messages.specs.Slots.Change.{Acknowledge, Clear, ClearAll, Put}
use Rattle.psci_messages.specs.Slots.Slot.{OfCore}
use Rattle.psci_messages.specs.contracts.message.Message as Message
use Rattle.psci_messages.specs.contracts.slot.Slot as Slot
use Rattle.psci_messages.specs.contracts.slots.Slots as Slots

-- What becomes of a slot while its message is lent to be written over -----------------------------

-- the slot ends with the message that was last written through the borrow
abbrev pub LendsFilled : MutBor (Option MessageValue) → MutBor MessageValue → Fml
LendsFilled s r = Lends Slot.the_row Message.the_row s r (λ m. Some m)

-- the slots once this message was written into that of a core
abbrev pub with_lent : SlotsValue → ℕ → MessageValue → SlotsValue
with_lent s core m = with_message s (OfCore core) (Some m)

-- the slot of a core ends with the message that was last written through the borrow
abbrev pub LendsOfCore : MutBor SlotsValue → ℕ → MutBor MessageValue → Fml
LendsOfCore s core r = Lends Slots.the_row Message.the_row s r (with_lent s.now core)

-- Outstanding -------------------------------------------------------------------------------------

-- the message that a change sends to a slot
abbrev pub sent_by : Slot → Change → Option MessageValue
sent_by slot (Put m) = if is_slot (slot_of m.kind m.core) slot then Some m else None
sent_by slot (Clear core) = None
sent_by slot ClearAll = None
sent_by slot (Acknowledge a) = None

-- the last message that was sent to a slot
unfoldable pub last_message : Slot → List Change → Option MessageValue
last_message slot [] = None
last_message slot (change ∷ changes) =
    if is_none (sent_by slot change) then last_message slot changes else sent_by slot change

-- the changes since then
unfoldable pub changes_since : Slot → List Change → List Change
changes_since slot [] = []
changes_since slot (change ∷ changes) =
    if is_none (sent_by slot change) then change ∷ changes_since slot changes else []

-- whether a change ends what is outstanding: its core enters, a life begins, or it is acknowledged
-- and nothing of it is left to do
abbrev pub ends_message : Slot → MessageValue → Change → Bool
ends_message slot m (Put n) = false
ends_message slot m (Clear core) = is_slot (OfCore core.number) slot
ends_message slot m ClearAll = true
ends_message slot m (Acknowledge a) = answers a m && is_done a m

-- the outstanding message of a slot
unfoldable pub outstanding : Slot → List Change → Option MessageValue
outstanding slot changes =
    option_and_then
    (λ m. if list_any (ends_message slot m) (changes_since slot changes) then None else Some m)
    (last_message slot changes)

-- what is sent for a core is for one that has a slot
abbrev pub IsChange : ℕ → Change → Type 0
IsChange cores (Put m) = IsOfCores cores (slot_of m.kind m.core)
IsChange cores (Clear core) = Unit {0}
IsChange cores ClearAll = Unit {0}
IsChange cores (Acknowledge a) = Unit {0}

-- the same of a history
abbrev pub AreChanges : ℕ → List Change → Type 0
AreChanges cores changes = AllByRecursion (IsChange cores) changes
