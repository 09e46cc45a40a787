-- Each slot has one of the names.
use Rattle.psci_platform.proofs.Words.{AreAmong}
use Rattle.psci_platform.proofs.tables.factor_for.Given as goal

abbrev pub invariant-loop-round : goal.invariant-loop-round
invariant-loop-round l = AreAmong l.names l.slots
