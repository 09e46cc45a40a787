-- Hardware states that are said of domains.
use Rattle.psci_headline.proofs.Confirmed.{states_real}
use Rattle.psci_headline.proofs.hardware.law_states_real.Goals as goal

pub returns : goal.returns
returns c = states_real
