-- What a wake-up leaves is the one reply to it.
use Rattle.std.proofs.Common.{rules}
use Rattle.psci_ctl_spec.specs.Replies.{after, effect_of, reply, wake_of}
use Rattle.psci_ctl.proofs.controller.Controller.wake.Goals as goal

pub returns-in_default : goal.returns-in_default
unfolding after effect_of reply wake_of
returns-in_default c = search rules

pub returns-then-starts-halted : goal.returns-then-starts-halted
unfolding after effect_of reply wake_of
returns-then-starts-halted c = search rules

pub returns : goal.returns
unfolding after effect_of reply wake_of
returns c = search rules
