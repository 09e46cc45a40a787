-- What a delivery leaves is the one reply to it.
use Rattle.std.proofs.Common.{rules}
use Rattle.psci_ctl_spec.specs.Replies.{after, delivery_of, effect_of, reply}
use Rattle.psci_ctl.proofs.controller.Controller.deliver.Goals as goal

pub returns-in_default : goal.returns-in_default
unfolding after effect_of reply delivery_of
returns-in_default c = search rules

pub returns-then-life-message : goal.returns-then-life-message
unfolding after effect_of reply delivery_of
returns-then-life-message c = search rules

pub returns : goal.returns
unfolding after effect_of reply delivery_of
returns c = search rules
