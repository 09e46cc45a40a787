-- The values of no history, and of one with a reply more.
use Rattle.psci_ctl_spec.proofs.Steps.{first_values, values_more}
use Rattle.psci_ctl_spec.proofs.laws.law_values.Goals as goal

pub returns : goal.returns
returns c = record { first = first_values; more = values_more }
