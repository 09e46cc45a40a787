-- Where firmware and power controller agree, all is told.
use Rattle.psci_headline.proofs.Confirmed.{whole}
use Rattle.psci_headline.proofs.told.law_complete.Goals as goal

pub returns : goal.returns
returns c = whole
