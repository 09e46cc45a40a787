-- What waits after every legal run.
use Rattle.psci_headline.proofs.CoreSteps.{waited}
use Rattle.psci_headline.proofs.settle_laws.law_waiting.Goals as goal

pub returns : goal.returns
returns c = waited
