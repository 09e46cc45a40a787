-- The rounds that are left lead to what all of them do.
use Rattle.std.proofs.Common.{◌≡◌, ◌-◌}
use Rattle.psci_headline.specs.Settling.{rounds}
use Rattle.psci_world.specs.Settles.{SettlesBy}
use Rattle.psci_world.proofs.settling.make_rounds.Given as goal

abbrev pub invariant-loop-made : goal.invariant-loop-made
invariant-loop-made l = record {
  board : l.world.board ≡ l.fn.world.board;
  events : SettlesBy l.fn.world.board l.fn.world.past l.world.past;
  rest : rounds l.fn.world.board (l.most - l.made) l.world.past l.made
      ≡ rounds l.fn.world.board l.most l.fn.world.past 0;
}
