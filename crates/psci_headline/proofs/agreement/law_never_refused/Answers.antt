-- What is not refused.
use Rattle.psci_headline.proofs.OnBoards.{none_refused}
use Rattle.psci_headline.proofs.agreement.law_never_refused.Goals as goal

pub returns : goal.returns
returns c = none_refused
