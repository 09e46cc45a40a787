-- What firmware and power controller know of each other.
use Rattle.psci_headline.proofs.Runs.{agreement}
use Rattle.psci_headline.proofs.agreement.law_agreement.Goals as goal

pub returns : goal.returns
returns c = agreement
