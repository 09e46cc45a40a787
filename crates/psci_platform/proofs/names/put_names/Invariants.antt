-- Each slot has one of the names.
use Rattle.psci_platform.proofs.Words.{AreAmong}
use Rattle.psci_platform.proofs.names.put_names.Given as goal

abbrev pub invariant-loop-name : goal.invariant-loop-name
invariant-loop-name l = AreAmong l.names l.slots
