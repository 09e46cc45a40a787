-- What is kept of the watch holds after an acknowledgement that was taken, too.
use Rattle.psci_fw.specs.psci_fw_spec.declared.call.FwCall.TheVariants.{Take}
use Rattle.psci_fw.specs.psci_fw_spec.declared.reply.FwReply.TheVariants.{Taken}
use Rattle.psci_bench.proofs.Kept.{kept_taken}
use Rattle.psci_bench.proofs.watch.Watch.take.Goals as goal

pub invariant_of-self : goal.invariant_of-self
invariant_of-self g c =
    kept_taken g.N.Named.board _ _ (Take c.args.ack) Taken c.take.result _
    c.take.ensures.ok c.take.ensures.err c.self.invariant
