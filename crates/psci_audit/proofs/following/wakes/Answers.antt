-- A wake-up.
use Rattle.std.proofs.Common.{ℕ, refl, subst}
use Rattle.psci_world_spec.specs.declared.event.Event.TheVariants.{Wake}
use Rattle.psci_audit.proofs.Steps.{Happened, not_so, wakes_late, wakes_nowhere, woken}
use Rattle.psci_audit.proofs.following.wakes.Goals as goal

pub returns-then-not-is_on_board-clause-step : goal.returns-then-not-is_on_board-clause-step
returns-then-not-is_on_board-clause-step c =
    wakes_nowhere c.args.world.now c.args.world.now c.args.core c.args.halted
    c.args.reply.now (not_so c.if-not-is_on_board.ensures.1)

pub returns-then-not-may_wake-clause-step : goal.returns-then-not-may_wake-clause-step
returns-then-not-may_wake-clause-step c =
    wakes_late c.args.world.now c.args.world.now c.args.core c.args.halted
    c.args.reply.now (not_so c.if-not-may_wake.ensures.1)

pub returns-clause-step : goal.returns-clause-step
returns-clause-step c =
    woken c.args.world.now c.step.new.self c.args.core c.args.halted c.args.reply.now
    c.in_ok-record.record c.says_kick.result (c.if-not-may_wake.ensures.0 refl)
    (subst (λ (n : ℕ). Happened c.args.world.now c.step.new.self (Wake n) c.in_ok-record.record)
    c.from.ensures c.in_ok-record.ensures.ok) c.says_kick.ensures
