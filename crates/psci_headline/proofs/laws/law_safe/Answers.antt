-- A legal run is safe at every moment.
use Rattle.psci_headline.proofs.OnBoards.{always_safe}
use Rattle.psci_headline.proofs.laws.law_safe.Goals as goal

pub returns : goal.returns
returns c = always_safe
