-- Each clause is one direction.
use Rattle.psci_messages.proofs.History.{claim-from, part-by-part}
use Rattle.psci_messages.proofs.laws.law_parts.Goals as goal

pub returns-clause-claim : goal.returns-clause-claim
returns-clause-claim c = claim-from

pub returns-clause-parts : goal.returns-clause-parts
returns-clause-parts c = part-by-part
