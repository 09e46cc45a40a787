-- Three times all cores did something.
use Rattle.std.proofs.Common.{◌∙◌}
use Rattle.psci_world.proofs.OnTheWay.{all_begun, on_err, settles_both, stops_entering}
use Rattle.psci_world.proofs.OnTheWay.{stops_starting}
use Rattle.psci_world.proofs.settling.begin.Goals as goal

pub returns-in_err-answer_each-clause-events : goal.returns-in_err-answer_each-clause-events
returns-in_err-answer_each-clause-events c =
    settles_both c.enter_started.ensures.board c.enter_started.ensures.events
    c.answer_each.ensures.events

pub returns-clause-events : goal.returns-clause-events
returns-clause-events c =
    settles_both (c.answer_each.ensures.board ∙ c.enter_started.ensures.board)
    (settles_both c.enter_started.ensures.board c.enter_started.ensures.events
    c.answer_each.ensures.events) c.enter_started-2.ensures.events

pub returns-clause-ok : goal.returns-clause-ok
returns-clause-ok c =
    rw (← (all_begun c.args.world.now.board _ _ c.args.world.now.past _ _
    c.enter_started.ensures.board (c.answer_each.ensures.board ∙ c.enter_started.ensures.board)
    (c.in_ok-enter_started.ensures {u = tt}).ok (c.in_ok-answer_each.ensures {u = tt}).ok))
    c.enter_started-2.ensures.ok

pub returns-in_err-enter_started-clause-front : goal.returns-in_err-enter_started-clause-front
returns-in_err-enter_started-clause-front c =
    on_err c.from_residual.result _
    (stops_entering c.args.world.now.board c.args.world.now.past _
    c.in_err-enter_started.ensures.front)

pub returns-in_err-answer_each-clause-front : goal.returns-in_err-answer_each-clause-front
returns-in_err-answer_each-clause-front c =
    on_err c.from_residual-in_err-answer_each.result _
    (stops_starting c.args.world.now.board _ c.args.world.now.past _ _
    c.enter_started.ensures.board (c.in_ok-enter_started.ensures {u = tt}).ok
    c.in_err-answer_each.ensures.front)

pub returns-clause-front : goal.returns-clause-front
returns-clause-front c =
    rw (← (all_begun c.args.world.now.board _ _ c.args.world.now.past _ _
    c.enter_started.ensures.board (c.answer_each.ensures.board ∙ c.enter_started.ensures.board)
    (c.in_ok-enter_started.ensures {u = tt}).ok (c.in_ok-answer_each.ensures {u = tt}).ok))
    c.enter_started-2.ensures.front
