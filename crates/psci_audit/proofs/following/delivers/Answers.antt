-- A message that is delivered.
use Rattle.std.proofs.Common.{◌≡◌, List, Some, subst}
use Rattle.std.specs.Prelude.{slice_get}
use Rattle.psci_world_spec.specs.psci_messages.Message.{MessageValue}
use Rattle.psci_audit.proofs.Steps.{delivered, never_sent}
use Rattle.psci_audit.proofs.following.delivers.Goals as goal

pub returns-in_default-clause-step : goal.returns-in_default-clause-step
returns-in_default-clause-step c =
    never_sent c.args.world.now c.args.world.now c.args.message.now c.args.reply.now
    (λ k. subst (λ (l : List MessageValue). slice_get l k ≡ Some c.args.message.now → ⊥)
    c.messages.ensures (c.in_default.ensures k))

pub returns-clause-step : goal.returns-clause-step
returns-clause-step c =
    delivered c.args.world.now c.step.new.self c.in-Some.number c.args.message.now
    c.args.reply.now c.in_ok-record.record c.says_delivery.result
    (subst (λ (l : List MessageValue). slice_get l c.in-Some.number ≡ Some c.args.message.now)
    c.messages.ensures c.in-Some.ensures) c.in_ok-record.ensures.ok c.says_delivery.ensures
