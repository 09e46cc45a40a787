-- The places from here on, and what is left of the other list, decide.
use Rattle.std.proofs.Common.{◌≡◌, drop}
use Rattle.psci_shared.specs.Places.{RisesFrom, apart, places}
use Rattle.psci_shared.proofs.agreement.apart.Given as goal

abbrev pub invariant-loop-item : goal.invariant-loop-item
invariant-loop-item g l = record {
  same : apart (places (drop l.item-index l.one)) (places l.left)
      ≡ apart (places l.one) (places l.other);
  left : RisesFrom 0 (places l.left);
  rest : RisesFrom 0 (places (drop l.item-index l.one));
}
