-- What is kept of the watch holds after an entry, too.
use Rattle.psci_fw.specs.psci_fw_spec.declared.call.FwCall.TheVariants.{Enter}
use Rattle.psci_fw.specs.psci_fw_spec.declared.reply.FwReply.TheVariants.{Out}
use Rattle.psci_bench.proofs.Kept.{kept_answered}
use Rattle.psci_bench.proofs.watch.Watch.enter.Goals as goal

pub invariant_of-self : goal.invariant_of-self
invariant_of-self g c =
    kept_answered g.N.Named.board _ _ (Enter c.args.start) Out c.enter.result _
    c.enter.ensures.ok c.enter.ensures.err c.self.invariant
