-- As many events as the loop has counted were drawn, and happened.
use Rattle.std.proofs.Common.{◌≡◌}
use Rattle.psci_storm.specs.Storm.{IsDrawn}
use Rattle.psci_storm.proofs.draws.draw.Given as goal

abbrev pub invariant-events : goal.invariant-events
invariant-events l = record {
  board : l.world.board ≡ l.fn.world.board;
  drawn : IsDrawn l.fn.world.board l.fn.world.past l._drawn l.world.past;
}
