-- A call.
use Rattle.std.proofs.Common.{ℕ, subst}
use Rattle.psci_world_spec.specs.declared.event.Event.TheVariants.{Call}
use Rattle.psci_audit.proofs.Steps.{Happened, called}
use Rattle.psci_audit.proofs.following.calls.Goals as goal

pub returns-clause-step : goal.returns-clause-step
returns-clause-step c =
    called c.args.world.now c.step.new.self c.args.core.number c.args.regs c.args.reply.now
    c.in_ok-record.record c.says_outcome.result
    (subst (λ (n : ℕ). Happened c.args.world.now c.step.new.self (Call n c.args.regs)
    c.in_ok-record.record) c.from.ensures c.in_ok-record.ensures.ok) c.says_outcome.ensures
