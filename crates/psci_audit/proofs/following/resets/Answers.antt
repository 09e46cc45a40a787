-- A reset.
use Rattle.std.proofs.Common.{ℕ, subst}
use Rattle.psci_world_spec.specs.declared.event.Event.TheVariants.{Reset}
use Rattle.psci_audit.proofs.Steps.{Happened, was_reset}
use Rattle.psci_audit.proofs.following.resets.Goals as goal

pub returns-clause-step : goal.returns-clause-step
returns-clause-step c =
    was_reset c.args.world.now c.step.new.self c.args.core c.args.reply.now c.in_ok-record.record
    c.says_kick.result
    (subst (λ (n : ℕ). Happened c.args.world.now c.step.new.self (Reset n) c.in_ok-record.record)
    c.from.ensures c.in_ok-record.ensures.ok) c.says_kick.ensures
