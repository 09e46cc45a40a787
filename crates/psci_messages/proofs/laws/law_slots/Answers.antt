-- Each clause is a law of slots.
use Rattle.psci_messages.proofs.History.{look-after_all, outstanding-own, outstanding-step}
use Rattle.psci_messages.proofs.laws.law_slots.Goals as goal

pub returns-clause-outstanding : goal.returns-clause-outstanding
returns-clause-outstanding c = look-after_all

pub returns-clause-more : goal.returns-clause-more
returns-clause-more c = outstanding-step

pub returns-clause-own : goal.returns-clause-own
returns-clause-own c = outstanding-own
