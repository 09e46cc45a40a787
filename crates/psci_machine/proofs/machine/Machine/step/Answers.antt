-- After an event the machine is as after one record more.
use Rattle.psci_machine.proofs.Following.{HistoryLaws, follows}
use Rattle.psci_machine.proofs.machine.Machine.step.Goals as goal

pub returns-clause-after : goal.returns-clause-after
returns-clause-after c = λ b past is sends makes.
    let laws : HistoryLaws b = record {
      kept = c.law_values.ensures.more b;
      controlled = c.law_values-2.ensures.more b;
    } in
    follows b past c.args.messages.now c.args.made.now c.args.self.now c.happen.new.self
    c.args.event c.happen.result laws is sends makes c.happen.ensures.next
