-- The levels so far keep that all below them are off.
use Rattle.psci_tree.proofs.Words.{◌≡◌, map}
use Rattle.psci_tree.proofs.Gone.{gone_to}
use Rattle.psci_tree.specs.Kept.{gone}
use Rattle.psci_tree.proofs.domains.turn_off.Given as goal

abbrev pub invariant-loop-level : goal.invariant-loop-level
invariant-loop-level l =
    map (λ v. v.items) l.rows ≡ gone_to (map gone) l.level (map (λ v. v.items) l.fn.rows)
