-- What was sent.
use Rattle.psci_headline.proofs.Sending.{same_sent}
use Rattle.psci_headline.proofs.agreement.law_sent.Goals as goal

pub returns : goal.returns
returns c = same_sent
