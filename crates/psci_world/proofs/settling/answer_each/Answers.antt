-- Core by core, and as far as it went.
use Rattle.std.proofs.Common.{◌∙◌, ◌<◌, ap, arith}
use Rattle.psci_machine.specs.psci_board.Board.{cores}
use Rattle.psci_headline.specs.Settling.{served, serving}
use Rattle.psci_world.specs.Settles.{serves_kind}
use Rattle.psci_world.proofs.OnTheWay.{at_first, at_next, on_err, settles_both, stops_each}
use Rattle.psci_world.proofs.OnTheWay.{way_answered}
use Rattle.psci_world.proofs.settling.answer_each.Goals as goal

pub loop-number-init : goal.loop-number-init
loop-number-init c = at_first (λ b. served b (serves_kind c.args.which)) c.args.world.now

pub loop-number-preserved : goal.loop-number-preserved
loop-number-preserved c =
    let less : c.loop-number.number < cores c.args.world.now.board =
    omega (arith, ap cores c.board.ensures) in
    at_next c.loop-number.invariant less c.answer.ensures.board c.answer.ensures.events
    ((c.in_ok-answer.ensures {u = tt}).ok
    ∙ ap (serving c.loop-number.world.board c.loop-number.world.past)
    c.number_outstanding-message.ensures)

pub returns-in_err-answer-clause-events : goal.returns-in_err-answer-clause-events
returns-in_err-answer-clause-events c =
    settles_both c.loop-number.invariant.board c.loop-number.invariant.events
    c.answer.ensures.events

pub returns-in_err-answer-clause-front : goal.returns-in_err-answer-clause-front
returns-in_err-answer-clause-front c =
    let less : c.loop-number.number < cores c.args.world.now.board =
    omega (arith, ap cores c.board.ensures) in
    on_err c.from_residual.result _
    (stops_each _ (way_answered c.args.world.now.board (serves_kind c.args.which))
    c.loop-number.invariant less
    (rw (← c.number_outstanding-message.ensures) c.in_err-answer.ensures.front))
