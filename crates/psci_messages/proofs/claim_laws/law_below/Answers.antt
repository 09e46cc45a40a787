-- What is counted over the cores below a domain.
use Rattle.psci_messages.proofs.OsiLaws.{below_laws}
use Rattle.psci_messages.proofs.claim_laws.law_below.Goals as goal

pub returns : goal.returns
returns c = below_laws
