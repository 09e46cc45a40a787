-- Event by event, and as far as it went.
use Rattle.std.proofs.Common.{◌≡◌, ◌∙◌, ◌∷◌, ℕ, ap, arith, refl, subst}
use Rattle.psci_storm.specs.Storm.{IsDrawn}
use Rattle.psci_storm.proofs.Blown.{drawn_few, drawn_more, drawn_none, happens_drawn}
use Rattle.psci_storm.proofs.Blown.{happens_same, on_err}
use Rattle.psci_world.specs.psci_world_spec.declared.said.Record.{Record}
use Rattle.psci_storm.proofs.draws.draw.Goals as goal

pub events-init : goal.events-init
events-init c = record {
  board = refl;
  drawn = drawn_none c.args.world.now.board c.args.world.now.past;
}

pub events-preserved : goal.events-preserved
events-preserved c =
    let old = c.args.world.now in
    let at = c.events in
    let ok = c.in_ok-step.ensures.ok in
    record {
      board = c.step.ensures.board ∙ at.invariant.board;
      drawn = drawn_more old.board at.world.board old.past at.world.past c.step.new.self.past
          at._drawn c.next-event.result at.invariant.board at.invariant.drawn
          (ok.1 ∙ ap (λ (r : Record). r ∷ at.world.past) ok.0);
    }

pub returns-in_err-step-clause-events : goal.returns-in_err-step-clause-events
returns-in_err-step-clause-events c =
    let old = c.args.world.now in
    let at = c.events in
    happens_same old.board old.past at.world.past c.step.new.self.past
    (ap (λ w. w.past) c.in_err-step.ensures.memory)
    (happens_drawn old.board old.past at.world.past at._drawn at.invariant.drawn)

pub returns-clause-events : goal.returns-clause-events
returns-clause-events c =
    happens_drawn c.args.world.now.board c.args.world.now.past c.events.world.past
    c.events._drawn c.events.invariant.drawn

pub returns-clause-ok : goal.returns-clause-ok
returns-clause-ok c =
    let all : c.events._drawn ≡ c.args.count = omega arith in
    subst (λ (n : ℕ). IsDrawn c.args.world.now.board c.args.world.now.past n c.events.world.past)
    all c.events.invariant.drawn

pub returns-in_err-step-clause-few : goal.returns-in_err-step-clause-few
returns-in_err-step-clause-few c =
    let old = c.args.world.now in
    let at = c.events in
    on_err c.from_residual.result _
    (drawn_few old.board old.past at.world.past c.step.new.self.past at._drawn c.args.count
    c.events-test.true (ap (λ w. w.past) c.in_err-step.ensures.memory) at.invariant.drawn)
