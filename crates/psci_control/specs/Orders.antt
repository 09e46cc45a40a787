-- What the power controller's side of a port orders, and in which order.
use Rattle.std.specs.Prelude.{◌++◌, ◌∷◌, [], Bool, drop, false, List, map, None, Option, Some}
use Rattle.std.specs.Prelude.{true, ℕ}
use Rattle.psci_board.specs.declared.draft.Core.{Core}
use Rattle.psci_messages.specs.Message.{AckValue}
use Rattle.psci_messages.specs.declared.part.Part.{Part}
use Rattle.psci_ctl_spec.specs.declared.delivery.Delivery.TheVariants as deliveries
use Rattle.psci_ctl_spec.specs.declared.reply.CtlReply.{CtlReply}
use Rattle.psci_ctl_spec.specs.declared.reply.CtlReply.TheVariants as replies
use Rattle.psci_ctl_spec.specs.Replies.{Effect, Nothing, Starts, Deepens, Ends, Begins}
use Rattle.psci_control.specs.declared.order.Ending.{Ending}
use Rattle.psci_control.specs.declared.order.Ending.TheVariants as endings
use Rattle.psci_control.specs.declared.order.Order.{Order}
use Rattle.psci_control.specs.declared.order.Order.TheVariants.{Switch, Raise, Acknowledge, End}

-- the domain of a part, on the path of this core, goes to its depth
abbrev pub switch : Core → Part → Order
switch core p = Switch core p.level p.depth

-- power is switched: down, or for a start up
abbrev pub power_orders : Effect → List Order
power_orders Nothing = []
power_orders (Starts c cause) = Raise (record { number = c }) ∷ []
power_orders (Deepens c ps) = map (switch (record { number = c })) ps
power_orders Ends = []
power_orders Begins = []

-- the acknowledgement goes back
abbrev pub ack_in : CtlReply → Option AckValue
ack_in (replies.Delivery (deliveries.Applied a)) = Some a
ack_in (replies.Delivery deliveries.Ignored) = None
ack_in (replies.Kick k) = None

-- if one does
abbrev pub back_orders : Option AckValue → List Order
back_orders None = []
back_orders (Some a) = Acknowledge a ∷ []

-- the life ends
abbrev pub ending_of : Effect → Option Ending
ending_of Nothing = None
ending_of (Starts c cause) = None
ending_of (Deepens c ps) = None
ending_of Ends = Some endings.Off
ending_of Begins = Some endings.Restart

-- if it does
abbrev pub end_orders : Option Ending → List Order
end_orders None = []
end_orders (Some e) = End e ∷ []

-- what this reply orders, which comes down to this: power is switched before all else
abbrev pub orders_of : Effect → CtlReply → List Order
orders_of f reply =
    power_orders f ++ (back_orders (ack_in reply) ++ end_orders (ending_of f))

-- Handing out ------------------------------------------------------------------------------------

-- the power of a path
abbrev pub raise_orders : Bool → Core → List Order
raise_orders true core = Raise core ∷ []
raise_orders false core = []

-- what is left, with so many parts handed out
abbrev pub left_of : Core → List Part → ℕ → Bool → Option AckValue → Option Ending → List Order
left_of core parts given raises ack ending =
    map (switch core) (drop given parts)
    ++ (raise_orders raises core ++ (back_orders ack ++ end_orders ending))
