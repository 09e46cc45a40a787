-- What a reset leaves is the one reply to it.
use Rattle.std.proofs.Common.{rules}
use Rattle.psci_ctl_spec.specs.Replies.{after, effect_of, reply, reset_of}
use Rattle.psci_ctl.proofs.controller.Controller.reset.Goals as goal

pub returns-in_default : goal.returns-in_default
unfolding after effect_of reply reset_of
returns-in_default c = search rules

pub returns-then-not-may_start : goal.returns-then-not-may_start
unfolding after effect_of reply reset_of
returns-then-not-may_start c = search rules

pub returns : goal.returns
unfolding after effect_of reply reset_of
returns c = search rules
