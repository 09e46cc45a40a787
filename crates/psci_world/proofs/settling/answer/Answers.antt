-- Two events happened, or none.
use Rattle.psci_world.proofs.OnTheWay.{on_err, settles_both, settles_none, stops_answering}
use Rattle.psci_world.proofs.settling.answer.Goals as goal

pub returns-in_default-clause-events : goal.returns-in_default-clause-events
returns-in_default-clause-events c = settles_none

pub returns-clause-events : goal.returns-clause-events
returns-clause-events c =
    settles_both c.happen.ensures.board c.happen.ensures.events c.happen-2.ensures.events

pub returns-in_err-happen-clause-front : goal.returns-in_err-happen-clause-front
returns-in_err-happen-clause-front c =
    on_err c.from_residual.result _ (rw c.in-Some.is
    (stops_answering c.args.world.now.board c.args.world.now.past c.happen.new.world.past
    c.in-Some.number c.in_err-happen.ensures.front))
