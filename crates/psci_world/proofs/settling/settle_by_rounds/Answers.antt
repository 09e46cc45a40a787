-- A halting world is as it was; any other settles.
use Rattle.std.proofs.Common.{ap}
use Rattle.psci_world.specs.declared.settling.Settled.TheVariants.{Quiet}
use Rattle.psci_world.proofs.OnTheWay.{all_settled, on_err, settles_both, settles_none}
use Rattle.psci_world.proofs.OnTheWay.{stops_beginning, stops_rounds}
use Rattle.psci_world.proofs.settling.settle_by_rounds.Goals as goal

pub returns-then-is_halting-clause-events : goal.returns-then-is_halting-clause-events
returns-then-is_halting-clause-events c = settles_none

pub returns-in_err-make_rounds-clause-events : goal.returns-in_err-make_rounds-clause-events
returns-in_err-make_rounds-clause-events c =
    settles_both c.begin.ensures.board c.begin.ensures.events c.make_rounds.ensures.events

pub returns-clause-events : goal.returns-clause-events
returns-clause-events c =
    settles_both c.begin.ensures.board c.begin.ensures.events c.make_rounds.ensures.events

pub returns-clause-quiet : goal.returns-clause-quiet
returns-clause-quiet c = λ quiet.
    let all = all_settled c.args.world.now.board c.begin.new.world.board c.args.world.now.past
    c.begin.new.world.past _ c.begin.ensures.board (c.in_ok-begin.ensures {u = tt}).ok
    (c.in_ok-make_rounds.ensures {u = tt}).ok in
    (ap (λ r. Quiet r.rounds) all, ap (λ r. r.past) all)

pub returns-in_err-begin-clause-front : goal.returns-in_err-begin-clause-front
returns-in_err-begin-clause-front c =
    on_err c.from_residual.result _
    (stops_beginning c.args.world.now.board c.args.world.now.past c.begin.new.world.past
    c.in_err-begin.ensures.front)

pub returns-in_err-make_rounds-clause-front : goal.returns-in_err-make_rounds-clause-front
returns-in_err-make_rounds-clause-front c =
    on_err c.from_residual-in_err-make_rounds.result _
    (stops_rounds c.args.world.now.board c.begin.new.world.board c.args.world.now.past
    c.begin.new.world.past c.make_rounds.new.world.past c.begin.ensures.board
    (c.in_ok-begin.ensures {u = tt}).ok c.in_err-make_rounds.ensures.front)
