-- How acknowledgements were made.
use Rattle.psci_headline.proofs.Nexts.{was_made}
use Rattle.psci_headline.proofs.agreement.law_acknowledged.Goals as goal

pub returns : goal.returns
returns c = λ b past board. was_made b past
