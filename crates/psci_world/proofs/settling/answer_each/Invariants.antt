-- What is left of the cores leads to what all of them do.
use Rattle.psci_headline.specs.Settling.{served}
use Rattle.psci_world.specs.Settles.{serves_kind}
use Rattle.psci_world.proofs.OnTheWay.{IsAt}
use Rattle.psci_world.proofs.settling.answer_each.Given as goal

abbrev pub invariant-loop-number : goal.invariant-loop-number
invariant-loop-number l =
    IsAt (λ b. served b (serves_kind l.fn.which)) l.fn.world.board l.fn.world.past l.world l.number
