-- What is said of an event is what is legal.
use Rattle.std.proofs.Common.{length, ap, sym, ◌∙◌}
use Rattle.std.proofs.lemmas.List.{length-reverse}
use Rattle.psci_world_spec.specs.Legal.{acks, legal, sent}
use Rattle.psci_machine.proofs.Events.{call_legal, deliver_legal, enter_legal, reset_legal}
use Rattle.psci_machine.proofs.Events.{take_legal, wake_legal}
use Rattle.psci_machine.proofs.machine.Machine.happen.Goals as goal

pub returns-in-Call-clause-said : goal.returns-in-Call-clause-said
returns-in-Call-clause-said c = λ b past is sends makes.
    c.call.ensures.said
    ∙ call_legal b past c.args.self.now c.in-Call.number (length c.args.messages.now)
    c.in-Call.regs is (ap length sends ∙ length-reverse (sent past))
    ∙ ap (legal b past) (sym c.in-Call.is)

pub returns-in-Enter-clause-said : goal.returns-in-Enter-clause-said
returns-in-Enter-clause-said c = λ b past is sends makes.
    c.enter.ensures.said
    ∙ enter_legal b past c.args.self.now c.in-Enter.number (length c.args.messages.now) is
    (ap length sends ∙ length-reverse (sent past))
    ∙ ap (legal b past) (sym c.in-Enter.is)

pub returns-in-Wake-clause-said : goal.returns-in-Wake-clause-said
returns-in-Wake-clause-said c = λ b past is sends makes.
    c.wake.ensures.said (length (acks past))
    ∙ wake_legal b past c.args.self.now c.in-Wake.number is
    ∙ ap (legal b past) (sym c.in-Wake.is)

pub returns-in-Reset-clause-said : goal.returns-in-Reset-clause-said
returns-in-Reset-clause-said c = λ b past is sends makes.
    c.reset.ensures.said (length (acks past))
    ∙ reset_legal b past c.args.self.now c.in-Reset.number is
    ∙ ap (legal b past) (sym c.in-Reset.is)

pub returns-in-Deliver-clause-said : goal.returns-in-Deliver-clause-said
returns-in-Deliver-clause-said c = λ b past is sends makes.
    c.deliver.ensures.said
    ∙ deliver_legal b past c.args.self.now c.args.messages.now c.in-Deliver.number
    (length c.args.made.now) is sends (ap length makes ∙ length-reverse (acks past))
    ∙ ap (legal b past) (sym c.in-Deliver.is)

pub returns-in-Take-clause-said : goal.returns-in-Take-clause-said
returns-in-Take-clause-said c = λ b past is sends makes.
    c.take.ensures.said (length (sent past))
    ∙ take_legal b past c.args.self.now c.args.made.now c.in-Take.number is makes
    ∙ ap (legal b past) (sym c.in-Take.is)

pub returns-in-Call-clause-next : goal.returns-in-Call-clause-next
returns-in-Call-clause-next c =
    rw c.in-Call.is (c.call.ensures.next c.args.messages.now c.args.made.now)

pub returns-in-Enter-clause-next : goal.returns-in-Enter-clause-next
returns-in-Enter-clause-next c =
    rw c.in-Enter.is (c.enter.ensures.next c.args.messages.now c.args.made.now)

pub returns-in-Wake-clause-next : goal.returns-in-Wake-clause-next
returns-in-Wake-clause-next c =
    rw c.in-Wake.is (c.wake.ensures.next c.args.messages.now c.args.made.now)

pub returns-in-Reset-clause-next : goal.returns-in-Reset-clause-next
returns-in-Reset-clause-next c =
    rw c.in-Reset.is (c.reset.ensures.next c.args.messages.now c.args.made.now)

pub returns-in-Deliver-clause-next : goal.returns-in-Deliver-clause-next
returns-in-Deliver-clause-next c =
    rw c.in-Deliver.is (c.deliver.ensures.next c.args.made.now)

pub returns-in-Take-clause-next : goal.returns-in-Take-clause-next
returns-in-Take-clause-next c =
    rw c.in-Take.is (c.take.ensures.next c.args.messages.now)
