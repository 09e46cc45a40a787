-- The least ask of the cores so far.
use Rattle.psci_tree.proofs.Words.{◌≡◌, low_in, take}
use Rattle.psci_tree.proofs.core_change.least_of.Given as goal

abbrev pub invariant-loop-core : goal.invariant-loop-core
invariant-loop-core l = l.low ≡ low_in l.level (take l.core-index l.cores)
