-- Cores that are reported OFF.
use Rattle.psci_headline.proofs.Downs.{off_is_down}
use Rattle.psci_headline.proofs.powered_down.law_off_is_down.Goals as goal

pub returns : goal.returns
returns c = off_is_down
