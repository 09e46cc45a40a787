-- What is kept of the watch holds after a call, too.
use Rattle.psci_fw.specs.psci_fw_spec.declared.call.FwCall.TheVariants.{Smc}
use Rattle.psci_fw.specs.psci_fw_spec.declared.reply.FwReply.TheVariants.{Out}
use Rattle.psci_bench.proofs.Kept.{kept_answered}
use Rattle.psci_bench.proofs.watch.Watch.smc.Goals as goal

pub invariant_of-self : goal.invariant_of-self
invariant_of-self g c =
    kept_answered g.N.Named.board _ _ (Smc c.args.regs) Out c.smc.result _
    c.smc.ensures.ok c.smc.ensures.err c.self.invariant
