-- How much of a message is still to be carried out, and what a delivery leaves of that.
use Rattle.std.specs.Prelude.{◌&&◌, ◌+◌, ◌<◌, ◌==◌, ◌∷◌, ◌≡◌, ◌≤◌, [], Bool, false}
use Rattle.std.specs.Prelude.{if◌then◌else◌, List, not, Some, zero, ℕ}
use Rattle.psci_board.specs.Board.{BoardValue, up}
use Rattle.psci_ctl_spec.specs.psci_messages.Message.{MessageValue}
use Rattle.psci_ctl_spec.specs.psci_messages.Slots.{Slot, slot_of}
use Rattle.psci_ctl_spec.specs.psci_messages.declared.part.Part.{Part}
use Rattle.psci_ctl_spec.specs.declared.call.CtlCall.TheVariants as asked
use Rattle.psci_ctl_spec.specs.Replies.{after, reply}
use Rattle.psci_ctl_spec.specs.History.{IsSendable}
use Rattle.psci_ctl_spec.specs.Values.{is_live, Values}
use Rattle.psci_world_spec.specs.Legal.{indexed}
use Rattle.psci_port.specs.Served.{IsSpent, ends}

-- a part of this core is live, and its domain not as deep
abbrev pub is_undone : BoardValue → Values → ℕ → Part → Bool
is_undone b v c p = is_live b v c p && not (v.depth p.level (up b p.level c) == p.depth)

-- how many of these parts are
unfoldable pub undone : BoardValue → Values → ℕ → List Part → ℕ
undone b v c [] = zero
undone b v c (p ∷ ps) = (if is_undone b v c p then 1 else 0) + undone b v c ps

-- how many parts of a message are, after these values
abbrev pub left_of : BoardValue → Values → MessageValue → ℕ
left_of b v m = undone b v m.core.number m.parts

-- what the delivery of a message leaves of the values
abbrev pub served : BoardValue → Values → MessageValue → Values
served b v m = after b (asked.Deliver m) (reply b v (asked.Deliver m)) v

-- A delivery that brings something about ends its message, or leaves fewer of its parts; and none
-- leaves more of another message of this life, unless the life ends with it.
pub record LeavesLess (b : BoardValue) (v : Values) (sent : List MessageValue) (m : MessageValue)
    : Type 0 where
  pub own : (IsSpent b v m → ⊥) → ends m (reply b v (asked.Deliver m)) ≡ false
      → left_of b (served b v m) m < left_of b v m
  pub others : (k : ℕ) (x : MessageValue) → indexed sent k ≡ Some x → v.life ≡ Some x.life
      → (served b v m).life ≡ v.life → left_of b (served b v m) x ≤ left_of b v x

-- What is outstanding in a slot belongs there, was sent, and can be sent on this board.
pub record IsListed (b : BoardValue) (sent : List MessageValue) (slot : Slot) (m : MessageValue)
    : Type 0 where
  pub own : slot_of m.kind m.core ≡ slot
  pub number : ℕ
  pub at : indexed sent number ≡ Some m
  pub board : IsSendable b m
