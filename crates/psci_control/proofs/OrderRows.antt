-- Worked examples of orders: which comes first, and what they do to power.
use Rattle.std.proofs.Common.{◌∷◌, ◌≡◌, [], false, refl, ℕ}
use Rattle.psci_board.specs.Board.{up}
use Rattle.psci_board.specs.declared.draft.Core.{Core}
use Rattle.psci_messages.specs.Message.{AckValue}
use Rattle.psci_messages.specs.declared.kind.Kind.TheVariants.{Down}
use Rattle.psci_messages.specs.declared.part.Part.{Part}
use Rattle.psci_ctl_spec.specs.declared.delivery.Delivery.TheVariants as deliveries
use Rattle.psci_ctl_spec.specs.declared.reply.CtlReply.TheVariants as replies
use Rattle.psci_ctl_spec.specs.Replies.{Deepens}
use Rattle.psci_world_spec.proofs.Scripts.{board}
use Rattle.psci_control.specs.declared.order.Order.TheVariants.{Switch, Raise, Acknowledge}
use Rattle.psci_control.specs.Orders.{orders_of}
use Rattle.psci_control.specs.Powered.{powered}

abbrev core_3 : Core
core_3 = record { number = 3 }

abbrev part : ℕ → ℕ → Part
part level depth = record { level = level; depth = depth; generation = 1 }

abbrev ack : ℕ → AckValue
ack applied =
    record { kind = Down; core = core_3; life = 1; number = 1; applied = applied; stale = false }

-- Which orders -----------------------------------------------------------------------------------

-- a Down of which two parts were applied: power is switched, the lowest level first, and then it is
-- acknowledged
down_orders : orders_of (Deepens 3 (part 0 3 ∷ part 1 2 ∷ []))
    (replies.Delivery (deliveries.Applied (ack 2)))
    ≡ Switch core_3 0 3 ∷ Switch core_3 1 2 ∷ Acknowledge (ack 2) ∷ []
down_orders = refl

-- Power, with all of the board's path of core 3 on ------------------------------------------------

abbrev all_on : ℕ → ℕ → ℕ
all_on level place = 0

abbrev all_down : ℕ → ℕ → ℕ
all_down level place = 3

-- and none of another core does
switches_no_other : (powered board (Switch core_3 0 3 ∷ []) all_on 0 2
    ∷ powered board (Switch core_3 1 3 ∷ []) all_on 1 0 ∷ [])
    ≡ 0 ∷ 0 ∷ []
unfolding powered up
switches_no_other = refl

raises_its_path : (powered board (Raise core_3 ∷ []) all_down 0 3
    ∷ powered board (Raise core_3 ∷ []) all_down 1 1
    ∷ powered board (Raise core_3 ∷ []) all_down 2 0
    ∷ powered board (Raise core_3 ∷ []) all_down 0 2
    ∷ powered board (Raise core_3 ∷ []) all_down 1 0 ∷ [])
    ≡ 0 ∷ 0 ∷ 0 ∷ 3 ∷ 3 ∷ []
unfolding powered up
raises_its_path = refl
