-- what was seen so far
use Rattle.psci_bench.specs.Watches.{AreSeen}
use Rattle.psci_bench.proofs.gathering.handed_in.Given as goal

abbrev pub invariant-loop-thread : goal.invariant-loop-thread
invariant-loop-thread g l = AreSeen g.N.Named.board l.handed.passes.items l.handed.polls.items
