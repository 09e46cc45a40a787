-- What is told after every legal run.
use Rattle.psci_headline.proofs.Confirmed.{confirming}
use Rattle.psci_headline.proofs.told.law_confirming.Goals as goal

pub returns : goal.returns
returns c = confirming
