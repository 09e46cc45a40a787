-- The lemmas on acknowledgements.
use Rattle.psci_ctl_spec.proofs.Sums.{ack_laws}
use Rattle.psci_ctl_spec.proofs.laws.law_acknowledgements.Goals as goal

pub returns : goal.returns
returns c = ack_laws
