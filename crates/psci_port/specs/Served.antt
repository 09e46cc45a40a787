-- Which messages are still to be served: delivered, and their acknowledgements taken.
use Rattle.std.specs.Prelude.{◌≡◌, ℕ, ◌≤◌, Bool, false, Some}
use Rattle.psci_board.specs.Board.{BoardValue, height, up}
use Rattle.psci_ctl_spec.specs.psci_messages.Message.{MessageValue}
use Rattle.psci_ctl_spec.specs.psci_messages.Slots.{is_done, slot_of}
use Rattle.psci_ctl_spec.specs.declared.call.CtlCall.TheVariants as asked
use Rattle.psci_ctl_spec.specs.declared.delivery.Delivery.TheVariants as deliveries
use Rattle.psci_ctl_spec.specs.declared.reply.CtlReply.{CtlReply}
use Rattle.psci_ctl_spec.specs.declared.reply.CtlReply.TheVariants as replies
use Rattle.psci_ctl_spec.specs.Replies.{after, reply}
use Rattle.psci_ctl_spec.specs.Values.{Values}
use Rattle.psci_world_spec.specs.Legal.{firmware_values, indexed, sent}
use Rattle.psci_port.specs.Port.{Port, Delivers}
use Rattle.psci_port.specs.Rules.{May}

-- this reply leaves nothing to do of a message
abbrev pub ends : MessageValue → CtlReply → Bool
ends m (replies.Delivery (deliveries.Applied a)) = is_done a m
ends m (replies.Delivery deliveries.Ignored) = false
ends m (replies.Kick k) = false

-- A message brings nothing about by one delivery more, and its acknowledgement.
pub record IsSpent (b : BoardValue) (v : Values) (m : MessageValue) : Type 0 where
  -- no domain on the path of its core gets another depth
  pub depths : (level : ℕ) → level ≤ height b
      → (after b (asked.Deliver m) (reply b v (asked.Deliver m)) v).depth level
      (up b level m.core.number)
      ≡ v.depth level (up b level m.core.number)
  -- and some of the message is left
  pub left : ends m (reply b v (asked.Deliver m)) ≡ false

-- The message of this number is to be served: it is outstanding, it may be delivered, and that
-- brings something about.
pub record IsToServe (b : BoardValue) (p : Port) (k : ℕ) (m : MessageValue) : Type 0 where
  pub at : indexed (sent p.past) k ≡ Some m
  pub out : (firmware_values b p.past).outstanding (slot_of m.kind m.core) ≡ Some m
  pub may : May b p (Delivers k m)
  pub brings : IsSpent b p.values m → ⊥

-- each outstanding message may be delivered
abbrev pub AreHeard : BoardValue → Port → Type 0
AreHeard b p = (k : ℕ) (m : MessageValue) → indexed (sent p.past) k ≡ Some m
    → (firmware_values b p.past).outstanding (slot_of m.kind m.core) ≡ Some m
    → May b p (Delivers k m)

-- no message is to be served
abbrev pub AllServed : BoardValue → Port → Type 0
AllServed b p = (k : ℕ) (m : MessageValue) → IsToServe b p k m → ⊥
