-- The world settled after the events that were drawn.
use Rattle.psci_storm.proofs.Blown.{blown, cut_drawing, cut_settling, happens_both, on_err}
use Rattle.psci_storm.proofs.draws.blow.Goals as goal

pub returns-clause-events : goal.returns-clause-events
returns-clause-events c =
    let old = c.args.world.now in
    happens_both old.board c.draw.new.world.board old.past c.draw.new.world.past
    c.settle.new.world.past c.draw.ensures.board c.draw.ensures.events
    c.settle.ensures.events.events c.settle.ensures.events.run

pub returns-clause-ok : goal.returns-clause-ok
returns-clause-ok c =
    let old = c.args.world.now in
    blown old.board c.draw.new.world.board old.past c.draw.new.world.past c.settle.new.world.past
    c.args.count c.settle.result c.draw.ensures.board (c.in_ok-draw.ensures {u = tt}).ok
    c.settle.ensures.halting c.settle.ensures.quiet c.settle.ensures.rest

pub returns-in_err-draw-clause-short : goal.returns-in_err-draw-clause-short
returns-in_err-draw-clause-short c =
    on_err c.from_residual.result _
    (cut_drawing c.args.world.now.board c.args.world.now.past c.draw.new.world.past c.args.count
    c.in_err-draw.ensures.few)

pub returns-clause-short : goal.returns-clause-short
returns-clause-short c =
    cut_settling c.args.world.now.board c.draw.new.world.board c.args.world.now.past
    c.draw.new.world.past c.settle.new.world.past c.args.count c.settle.result
    c.draw.ensures.board (c.in_ok-draw.ensures {u = tt}).ok c.settle.ensures.events
    c.settle.ensures.front
