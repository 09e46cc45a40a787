-- The domains so far keep that all below them are off.
use Rattle.psci_tree.proofs.Words.{◌≡◌}
use Rattle.psci_tree.proofs.Gone.{gone_to}
use Rattle.psci_tree.specs.Kept.{gone}
use Rattle.psci_tree.proofs.domains.turn_off_row.Given as goal

abbrev pub invariant-loop-place : goal.invariant-loop-place
invariant-loop-place l = l.row ≡ gone_to gone l.place l.fn.row
