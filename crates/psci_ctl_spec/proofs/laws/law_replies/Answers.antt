-- The one reply has the effect that may follow.
use Rattle.psci_ctl_spec.proofs.Depths.{follows}
use Rattle.psci_ctl_spec.proofs.laws.law_replies.Goals as goal

pub returns : goal.returns
returns c = follows
