-- Each call meets fewer passes.
use Rattle.std.proofs.Common.{length}
use Rattle.psci_shared.proofs.gather.+meet_all.Given as goal

abbrev pub decreases-meet_all : goal.decreases-meet_all
decreases-meet_all g l = length l.passes.now
