-- Cores of a domain that AFFINITY_INFO says is OFF.
use Rattle.psci_headline.proofs.OnBoards.{off_told}
use Rattle.psci_headline.proofs.affinity.law_told_off.Goals as goal

pub returns : goal.returns
returns c = off_told
