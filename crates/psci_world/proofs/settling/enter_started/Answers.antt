-- Core by core, and as far as it went.
use Rattle.std.proofs.Common.{◌<◌, ap, arith}
use Rattle.psci_machine.specs.psci_board.Board.{cores}
use Rattle.psci_headline.specs.Settling.{entering}
use Rattle.psci_world.proofs.OnTheWay.{at_first, at_next, on_err, settles_both, stops_each}
use Rattle.psci_world.proofs.OnTheWay.{way_entering}
use Rattle.psci_world.proofs.settling.enter_started.Goals as goal

pub loop-number-init : goal.loop-number-init
loop-number-init c = at_first entering c.args.world.now

pub loop-number-preserved : goal.loop-number-preserved
loop-number-preserved c =
    let less : c.loop-number.number < cores c.args.world.now.board =
    omega (arith, ap cores c.board.ensures) in
    at_next c.loop-number.invariant less c.enter_if_started.ensures.board
    c.enter_if_started.ensures.events (c.in_ok-enter_if_started.ensures {u = tt}).ok

pub returns-in_err-enter_if_started-clause-events
    : goal.returns-in_err-enter_if_started-clause-events
returns-in_err-enter_if_started-clause-events c =
    settles_both c.loop-number.invariant.board c.loop-number.invariant.events
    c.enter_if_started.ensures.events

pub returns-in_err-enter_if_started-clause-front
    : goal.returns-in_err-enter_if_started-clause-front
returns-in_err-enter_if_started-clause-front c =
    let less : c.loop-number.number < cores c.args.world.now.board =
    omega (arith, ap cores c.board.ensures) in
    on_err c.from_residual.result _ (stops_each _ (way_entering c.args.world.now.board)
    c.loop-number.invariant less c.in_err-enter_if_started.ensures.front)
