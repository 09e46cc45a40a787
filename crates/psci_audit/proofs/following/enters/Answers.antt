-- An entry.
use Rattle.std.proofs.Common.{ℕ, refl, subst}
use Rattle.psci_world_spec.specs.declared.event.Event.TheVariants.{Enter}
use Rattle.psci_audit.proofs.Steps.{Happened, entered, enters_late, enters_nowhere, not_so}
use Rattle.psci_audit.proofs.following.enters.Goals as goal

pub returns-then-not-is_on_board-clause-step : goal.returns-then-not-is_on_board-clause-step
returns-then-not-is_on_board-clause-step c =
    enters_nowhere c.args.world.now c.args.world.now c.args.core.number c.args.start
    c.args.reply.now (not_so c.if-not-is_on_board.ensures.1)

pub returns-then-not-is_last_start-clause-step : goal.returns-then-not-is_last_start-clause-step
returns-then-not-is_last_start-clause-step c =
    enters_late c.args.world.now c.args.world.now c.args.core.number c.args.start
    c.args.reply.now (not_so c.if-not-is_last_start.ensures.1)

pub returns-clause-step : goal.returns-clause-step
returns-clause-step c =
    entered c.args.world.now c.step.new.self c.args.core.number c.args.start c.args.reply.now
    c.in_ok-record.record c.says_outcome.result (c.if-not-is_last_start.ensures.0 refl)
    (subst (λ (n : ℕ). Happened c.args.world.now c.step.new.self (Enter n) c.in_ok-record.record)
    c.from.ensures c.in_ok-record.ensures.ok) c.says_outcome.ensures
