-- An acknowledgement that is taken.
use Rattle.std.proofs.Common.{◌≡◌, List, Some, subst}
use Rattle.std.specs.Prelude.{slice_get}
use Rattle.psci_world_spec.specs.psci_messages.Message.{AckValue}
use Rattle.psci_audit.proofs.Steps.{never_made, took}
use Rattle.psci_audit.proofs.following.takes.Goals as goal

pub returns-in_default-clause-step : goal.returns-in_default-clause-step
returns-in_default-clause-step c =
    never_made c.args.world.now c.args.world.now c.args.ack.now c.args.reply.now
    (λ k. subst (λ (l : List AckValue). slice_get l k ≡ Some c.args.ack.now → ⊥) c.acks.ensures
    (c.in_default.ensures k))

pub returns-clause-step : goal.returns-clause-step
returns-clause-step c =
    took c.args.world.now c.step.new.self c.in-Some.number c.args.ack.now c.args.reply.now
    c.in_ok-record.record c.says_taken.result
    (subst (λ (l : List AckValue). slice_get l c.in-Some.number ≡ Some c.args.ack.now)
    c.acks.ensures c.in-Some.ensures) c.in_ok-record.ensures.ok c.says_taken.ensures
