-- What waits is of the board, and of its core.
use Rattle.std.proofs.Common.{ap, Some}
use Rattle.psci_messages.specs.Message.{MessageValue}
use Rattle.psci_control.proofs.Asked.{holds}
use Rattle.psci_control.proofs.control_side.ControlSide.hold.Goals as goal

pub invariant_of-self : goal.invariant_of-self
invariant_of-self c =
    holds _ _ c.message.inside.core.number _ c.args.message.now c.self.invariant c.self.view_is
    (ap (λ (m : MessageValue). m.core.number) c.message.view_is) c.requires
    (ap (λ (m : MessageValue). Some m) c.copy.ensures)
