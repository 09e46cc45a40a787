-- Each call looks at fewer levels.
use Rattle.psci_board.proofs.Terms.{length}
use Rattle.psci_board.proofs.span.+first_core.Given as goal

abbrev pub decreases-first_core : goal.decreases-first_core
decreases-first_core l = length l.levels.now
