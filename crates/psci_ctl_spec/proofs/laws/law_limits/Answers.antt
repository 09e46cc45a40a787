-- The values keep their limits, by each effect and after every legal history.
use Rattle.psci_ctl_spec.proofs.Depths.{change_kept, first_kept, legal_kept, reply_kept}
use Rattle.psci_ctl_spec.proofs.laws.law_limits.Goals as goal

pub returns : goal.returns
returns c = record {
  first = first_kept;
  change = change_kept;
  reply = reply_kept;
  legal = legal_kept;
}
