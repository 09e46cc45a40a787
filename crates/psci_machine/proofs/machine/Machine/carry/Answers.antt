-- What the delivery of a message leaves.
use Rattle.std.proofs.Common.{ap, sym, ◌∙◌}
use Rattle.psci_fw.specs.psci_board.Board.{BoardValue}
use Rattle.psci_ctl.specs.Seen.{seen}
use Rattle.psci_ctl.specs.psci_ctl_spec.declared.delivery.Delivery.{Delivery}
use Rattle.psci_ctl.specs.psci_ctl_spec.declared.call.CtlCall.TheVariants as calls
use Rattle.psci_ctl.specs.psci_ctl_spec.declared.delivery.Delivery.TheVariants as deliveries
use Rattle.psci_ctl.specs.psci_ctl_spec.declared.reply.CtlReply.TheVariants as replies
use Rattle.psci_ctl.specs.psci_ctl_spec.Replies.{after, reply}
use Rattle.psci_machine.proofs.Kicks.{delivered_by, delivery_next, reset_life}
use Rattle.psci_machine.proofs.machine.Machine.carry.Goals as goal

pub note_ack-requires-clause-life : goal.note_ack-requires-clause-life
note_ack-requires-clause-life c =
    let fw = c.self.inside.firmware in
    let ctl = c.self.inside.controller in
    let m = c.args.message.now in
    let same = c.self.invariant.same in
    reset_life fw.board (seen ctl) (seen c.deliver.new.self) m c.in-Applied.ack
    (ap (λ (d : Delivery). replies.Delivery d) (sym c.in-Applied.is)
    ∙ c.deliver.ensures.reply
    ∙ ap (λ (b : BoardValue). reply b (seen ctl) (calls.Deliver m)) same)
    (c.deliver.ensures.after
    ∙ ap (λ (d : Delivery). after ctl.board (calls.Deliver m) (replies.Delivery d) (seen ctl))
    c.in-Applied.is
    ∙ ap (λ (b : BoardValue). after b (calls.Deliver m)
    (replies.Delivery (deliveries.Applied c.in-Applied.ack)) (seen ctl)) same)

pub returns-clause-next : goal.returns-clause-next
returns-clause-next c =
    let ctl = c.self.inside.controller in
    let m = c.args.message.now in
    λ messages acks k at. delivery_next messages acks c.args.self.now c.note_ack.new.self k
    c.args.made m c.in-Applied.ack at
    (delivered_by c.args.self.now c.note_ack.new.self c.self.inside.firmware ctl
    c.deliver.new.self _ m c.in-Applied.ack c.self.view_is c.self.invariant.same
    (c.deliver.ensures.after
    ∙ ap (λ (d : Delivery). after ctl.board (calls.Deliver m) (replies.Delivery d) (seen ctl))
    c.in-Applied.is)
    c.note_ack.ensures.places c.note_ack.ensures.firmware c.note_ack.ensures.controller)
