-- A live part, or the life's start, made each domain as deep as it is.
use Rattle.psci_ctl_spec.proofs.Depths.{deep_from}
use Rattle.psci_ctl_spec.proofs.laws.law_depths.Goals as goal

pub returns : goal.returns
returns c = deep_from
