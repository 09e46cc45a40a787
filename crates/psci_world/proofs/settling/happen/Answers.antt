-- One event happened, or none.
use Rattle.std.proofs.Common.{◌∷◌, ap, ◌∙◌}
use Rattle.psci_machine.specs.psci_world_spec.declared.said.Record.{Record}
use Rattle.psci_world.proofs.OnTheWay.{on_err, settles_none, settles_one, stops_step}
use Rattle.psci_world.proofs.settling.happen.Goals as goal

pub returns-in_err-step-clause-events : goal.returns-in_err-step-clause-events
returns-in_err-step-clause-events c = rw c.in_err-step.ensures.memory settles_none

pub returns-clause-events : goal.returns-clause-events
returns-clause-events c =
    let ok = c.in_ok-step.ensures.ok in
    let old = c.args.world.now in
    settles_one old.board old.past c.step.new.self.past c.args.event c.requires
    (ok.1 ∙ ap (λ (r : Record). r ∷ old.past) ok.0)

pub returns-in_err-step-clause-front : goal.returns-in_err-step-clause-front
returns-in_err-step-clause-front c =
    on_err c.from_residual.result _
    (stops_step c.args.world.now.board c.args.world.now.past c.step.new.self.past c.args.event
    (ap (λ w. w.past) c.in_err-step.ensures.memory))
