-- The storm of a new world, and that world.
use Rattle.std.proofs.Common.{◌∙◌}
use Rattle.psci_storm.proofs.Blown.{storms}
use Rattle.psci_storm.proofs.draws.storm_world.Goals as goal

pub returns : goal.returns
returns c = record {
  board = c.blow.ensures.board ∙ (c.in_ok-world.ensures {u = tt}).board;
  ok = storms c.args.board.now _ c.blow.new.world.board
      _ c.blow.new.world.past c.args.count
      _ c.of-storm.result (c.in_ok-world.ensures {u = tt}).board
      c.blow.ensures.board (c.in_ok-world.ensures {u = tt}).past
      (c.in_ok-settled.ensures {u = tt}).ok c.law.ensures.legal c.law.ensures.safe
      c.of-storm.ensures;
}
