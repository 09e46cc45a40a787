-- Round by round, and as far as it went.
use Rattle.std.proofs.Common.{◌∙◌, ◌+◌, ap, refl, sym, arith}
use Rattle.psci_machine.specs.psci_board.Board.{height}
use Rattle.psci_headline.specs.Settling.{rounds}
use Rattle.psci_world.proofs.OnTheWay.{on_err, round_more, rounds_done, rounds_first}
use Rattle.psci_world.proofs.OnTheWay.{rounds_over, settles_both, settles_none, stops_round}
use Rattle.psci_world.proofs.settling.make_rounds.Goals as goal

pub loop-made-init : goal.loop-made-init
loop-made-init c = record {
  board = refl;
  events = settles_none;
  rest = rounds_first c.args.world.now.board (c.height-most.result + 1)
      c.args.world.now.past;
}

pub loop-made-preserved : goal.loop-made-preserved
loop-made-preserved c =
    let old = c.args.world.now in
    let at = c.loop-made in
    record {
      board = c.answer_each.ensures.board ∙ at.invariant.board;
      events = settles_both at.invariant.board at.invariant.events c.answer_each.ensures.events;
      rest = round_more old.board at.world.board at.made (c.height-most.result + 1) at.world.past
          c.answer_each.new.world.past _ c.loop-made-test.true at.invariant.board
          (sym (c.if-not-is_waiting.ensures {u = tt}))
          (c.in_ok-answer_each.ensures {u = tt}).ok at.invariant.rest;
    }

pub returns-in_err-answer_each-clause-events : goal.returns-in_err-answer_each-clause-events
returns-in_err-answer_each-clause-events c =
    settles_both c.loop-made.invariant.board c.loop-made.invariant.events
    c.answer_each.ensures.events

pub returns-then-not-is_waiting-clause-ok : goal.returns-then-not-is_waiting-clause-ok
returns-then-not-is_waiting-clause-ok c =
    let old = c.args.world.now in
    let at = c.loop-made in
    rounds_done old.board at.world.board at.made (c.height-most.result + 1) at.world.past _
    c.loop-made-test.true at.invariant.board (sym (c.if-not-is_waiting.ensures {u = tt}))
    at.invariant.rest
    ∙ ap (λ k. rounds old.board (k + 1) old.past 0)
    (c.height-most.ensures.height ∙ ap height c.board.ensures)

pub returns-clause-ok : goal.returns-clause-ok
returns-clause-ok c =
    let old = c.args.world.now in
    let at = c.loop-made in
    rounds_over old.board at.made (c.height-most.result + 1) at.world.past _ (omega arith)
    at.invariant.rest
    ∙ ap (λ k. rounds old.board (k + 1) old.past 0)
    (c.height-most.ensures.height ∙ ap height c.board.ensures)

pub returns-in_err-answer_each-clause-front : goal.returns-in_err-answer_each-clause-front
returns-in_err-answer_each-clause-front c =
    let old = c.args.world.now in
    let at = c.loop-made in
    on_err c.from_residual.result _
    (rw (← (c.height-most.ensures.height ∙ ap height c.board.ensures))
    (stops_round old.board at.world.board at.made (c.height-most.result + 1) at.world.past
    c.answer_each.new.world.past _ c.loop-made-test.true at.invariant.board
    (sym (c.if-not-is_waiting.ensures {u = tt})) c.in_err-answer_each.ensures.front
    at.invariant.rest))
