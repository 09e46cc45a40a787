-- Each call counts fewer passes.
use Rattle.std.proofs.Common.{length}
use Rattle.psci_shared.proofs.tally.+count_all.Given as goal

abbrev pub decreases-count_all : goal.decreases-count_all
decreases-count_all g l = length l.passes.now
