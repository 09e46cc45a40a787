-- What the delivery of a message leaves.
use Rattle.std.proofs.Common.{ap}
use Rattle.psci_messages.specs.Message.{MessageValue}
use Rattle.psci_control.proofs.Asked.{delivered_asked, goes_on}
use Rattle.psci_control.proofs.control_side.ControlSide.hand_on.Goals as goal

pub invariant_of-self-2 : goal.invariant_of-self-2
invariant_of-self-2 c =
    goes_on _ c.deliver.new.controller c.self.invariant c.deliver.ensures.board

pub returns-clause-asked : goal.returns-clause-asked
returns-clause-asked c =
    delivered_asked _ _ c.deliver.new.controller c.word-word.result c.self.view_is
    c.deliver.ensures.board c.close.new.self c.args.message.now c.message.inside.core.number
    c.in_ok-delivery.delivery c.board.result.now c.ending_by-ending.result
    (ap (λ (m : MessageValue). m.core.number) c.message.view_is) c.word-word.ensures
    c.deliver.ensures.after c.in_ok-delivery.ensures.reply c.board.ensures
    c.ending_by-ending.ensures c.close.ensures.controller c.close.ensures.gates
