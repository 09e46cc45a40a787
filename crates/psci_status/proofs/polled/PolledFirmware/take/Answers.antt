-- After an acknowledgement its core's word has the status.
use Rattle.std.proofs.Common.{◌≡◌, false, refl, ap, subst}
use Rattle.psci_messages.specs.Message.{AckValue}
use Rattle.psci_status.specs.Lists.{is_named, used_by}
use Rattle.psci_status.proofs.Past.{names_taken}
use Rattle.psci_status.proofs.CallSteps.{life_taken, others_stay, polled_next, next_left}
use Rattle.psci_status.proofs.Told.{take_known}
use Rattle.psci_fw_spec.specs.declared.call.FwCall.TheVariants as calls
use Rattle.psci_fw_spec.specs.declared.reply.FwReply.TheVariants as replies
use Rattle.psci_status.proofs.polled.PolledFirmware.take.Goals as goal

pub write_known-requires-clause-known : goal.write_known-requires-clause-known
write_known-requires-clause-known c =
    let left = c.take-taken.ensures.after 0 in
    let taken = c.take-taken.result in
    take_known c.take-taken.new.self c.self.invariant 0 c.args.ack taken c.law_kept.ensures.allowed
    c.law_kept.ensures.kept (c.take-taken.ensures.answer 0)
    (rw left (life_taken _ 0 c.args.ack taken _)) (ap (λ (a : AckValue). a.core) c.ack.view_is)
    c.used_in-used.ensures

pub write_known-requires-clause-others : goal.write_known-requires-clause-others
write_known-requires-clause-others c core small other some =
    let left = c.take-taken.ensures.after 0 in
    let taken = c.take-taken.result in
    others_stay c.take-taken.new.self 0 (calls.Take c.args.ack) (replies.Taken taken)
    (used_by taken c.ack.inside.core) c.law_values.ensures.more c.self.invariant left
    (rw left (life_taken _ 0 c.args.ack taken _))
    (λ k not. names_taken c.self.inside.firmware.board 0 k c.args.ack taken
    (subst (λ (a : AckValue). is_named (used_by taken a.core) k ≡ false) c.ack.view_is not))
    core small (rw c.used_in-used.ensures at other) refl some

pub returns-clause-next : goal.returns-clause-next
returns-clause-next c = λ k.
    let left = c.take-taken.ensures.after k in
    next_left c.take-taken.new.self k (calls.Take c.args.ack) c.self.invariant c.self.view_is
    (c.take-taken.ensures.answer k) left c.take-taken.ensures.board c.write_known.ensures.table
    (rw left (life_taken _ k c.args.ack c.take-taken.result _)) c.write_known.ensures.log

pub invariant_of-self : goal.invariant_of-self
invariant_of-self c =
    let left = c.take-taken.ensures.after 0 in
    polled_next c.take-taken.new.self 0 (calls.Take c.args.ack) c.law_values.ensures.more
    c.self.invariant (c.take-taken.ensures.answer 0) left c.take-taken.ensures.board
    c.write_known.ensures.table (rw left (life_taken _ 0 c.args.ack c.take-taken.result _))
    c.write_known.ensures.log
