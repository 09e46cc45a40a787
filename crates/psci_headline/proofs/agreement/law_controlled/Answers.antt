-- The power controller's history of a legal run.
use Rattle.psci_headline.proofs.Runs.{controlled}
use Rattle.psci_headline.proofs.agreement.law_controlled.Goals as goal

pub returns : goal.returns
returns c = controlled
