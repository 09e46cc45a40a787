-- After an entry the entering core's word has its status.
use Rattle.std.proofs.Common.{Some}
use Rattle.psci_status.proofs.Past.{names_enter}
use Rattle.psci_status.proofs.CallSteps.{next_left, next_still, others_stay, polled_next}
use Rattle.psci_status.proofs.Told.{enter_known}
use Rattle.psci_fw.specs.Reactions.{outcome_in, seen}
use Rattle.psci_fw_spec.specs.declared.call.FwCall.TheVariants as calls
use Rattle.psci_fw_spec.specs.declared.reply.FwReply.TheVariants as replies
use Rattle.psci_fw_spec.proofs.Changing.{enters_life}
use Rattle.psci_status.proofs.polled.PolledFirmware.enter_in_slot.Goals as goal

pub returns-in_err-reaction-clause-next : goal.returns-in_err-reaction-clause-next
returns-in_err-reaction-clause-next g c =
    let e = c.in_err-reaction.ensures in
    next_still c.enter_in_slot.new.self c.args.core.number (calls.Enter c.args.start)
    c.self.invariant c.self.view_is e.answer e.after e.refused

pub write_entered-requires-clause-entered : goal.write_entered-requires-clause-entered
write_entered-requires-clause-entered g c =
    let left = c.in_ok-reaction.ensures in
    enter_known c.enter_in_slot.new.self c.self.invariant c.args.core.number c.args.start
    left.answer (rw left.after (enters_life _ _ c.args.core.number c.args.start _))

pub write_entered-requires-clause-others : goal.write_entered-requires-clause-others
write_entered-requires-clause-others g c =
    let f = c.enter_in_slot.new.self in
    let o = outcome_in f.board (seen f) c.in_ok-reaction.reaction in
    others_stay f c.args.core.number (calls.Enter c.args.start) (replies.Out o) (Some c.args.core)
    c.law_values.ensures.more c.self.invariant c.in_ok-reaction.ensures.after
    c.life_of-before.ensures (λ core other. names_enter c.self.inside.firmware.board
    c.args.core.number core c.args.start o other)

pub invariant_of-self-2 : goal.invariant_of-self-2
invariant_of-self-2 g c =
    let left = c.in_ok-reaction.ensures in
    polled_next c.enter_in_slot.new.self c.args.core.number (calls.Enter c.args.start)
    c.law_values.ensures.more c.self.invariant left.answer left.after left.board
    c.write_entered.ensures.table c.life_of-before.ensures c.write_entered.ensures.log

pub returns-clause-next : goal.returns-clause-next
returns-clause-next g c =
    let left = c.in_ok-reaction.ensures in
    next_left c.enter_in_slot.new.self c.args.core.number (calls.Enter c.args.start)
    c.self.invariant c.self.view_is left.answer left.after left.board
    c.write_entered.ensures.table c.life_of-before.ensures c.write_entered.ensures.log
