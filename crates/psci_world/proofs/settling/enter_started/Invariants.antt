-- What is left of the cores leads to what all of them do.
use Rattle.psci_headline.specs.Settling.{entering}
use Rattle.psci_world.proofs.OnTheWay.{IsAt}
use Rattle.psci_world.proofs.settling.enter_started.Given as goal

abbrev pub invariant-loop-number : goal.invariant-loop-number
invariant-loop-number l = IsAt entering l.fn.world.board l.fn.world.past l.world l.number
