-- Each Down was asked for.
use Rattle.psci_fw_laws.proofs.Histories.{was_asked}
use Rattle.psci_fw_laws.proofs.laws.law_asked.Goals as goal

pub returns : goal.returns
returns c = was_asked
