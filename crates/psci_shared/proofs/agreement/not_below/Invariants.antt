-- The items that are left tell the same as all.
use Rattle.std.proofs.Common.{◌≡◌, drop}
use Rattle.psci_shared.specs.Places.{not_below, places}
use Rattle.psci_shared.proofs.agreement.not_below.Given as goal

abbrev pub invariant-loop-from : goal.invariant-loop-from
invariant-loop-from g l =
    not_below l.place (places (drop l.from l.items)) ≡ not_below l.place (places l.items)
