-- After a call the word of the one core that it changes has its status.
use Rattle.psci_status.proofs.CallSteps.{next_still, smc_next, smc_polled, smc_stays}
use Rattle.psci_status.proofs.Told.{smc_known}
use Rattle.psci_fw_spec.specs.declared.call.FwCall.TheVariants as calls
use Rattle.psci_fw_spec.proofs.Changing.{same_life}
use Rattle.psci_status.proofs.polled.PolledFirmware.smc_in_slot.Goals as goal

pub returns-in_err-reaction-clause-next : goal.returns-in_err-reaction-clause-next
returns-in_err-reaction-clause-next g c =
    let e = c.in_err-reaction.ensures in
    next_still c.smc_in_slot.new.self c.args.core.number (calls.Smc c.args.regs) c.self.invariant
    c.self.view_is e.answer e.after e.refused

pub write_known-requires-clause-known : goal.write_known-requires-clause-known
write_known-requires-clause-known g c =
    let left = c.in_ok-reaction.ensures in
    smc_known c.smc_in_slot.new.self c.self.invariant c.args.core.number c.args.regs
    c.law_kept.ensures.allowed left.answer
    (rw left.after (same_life _ _ c.args.core.number c.args.regs _)) left.slot
    c.asked_in-asked.ensures

pub write_known-requires-clause-others : goal.write_known-requires-clause-others
write_known-requires-clause-others g c =
    let left = c.in_ok-reaction.ensures in
    smc_stays c.smc_in_slot.new.self c.args.core.number c.args.regs
    same_life c.self.invariant
    left.answer left.after c.law_values.ensures.more left.slot c.asked_in-asked.ensures

pub invariant_of-self-2 : goal.invariant_of-self-2
invariant_of-self-2 g c =
    let left = c.in_ok-reaction.ensures in
    smc_polled c.smc_in_slot.new.self c.args.core.number c.args.regs
    same_life c.self.invariant
    left.answer left.after c.law_values.ensures.more left.board c.write_known.ensures.table
    c.write_known.ensures.log

pub returns-clause-next : goal.returns-clause-next
returns-clause-next g c =
    let left = c.in_ok-reaction.ensures in
    smc_next c.smc_in_slot.new.self c.args.core.number c.args.regs
    same_life c.self.invariant
    left.answer left.after c.self.view_is left.board c.write_known.ensures.table
    c.write_known.ensures.log
