-- A part that is live no more is never live again.
use Rattle.psci_ctl_spec.proofs.Sums.{never_again}
use Rattle.psci_ctl_spec.proofs.laws.law_past.Goals as goal

pub returns : goal.returns
returns c = never_again
