-- Each name so far is that of a core.
use Rattle.psci_platform.proofs.Words.{All, IsName}
use Rattle.psci_platform.proofs.description.Description.names.Given as goal

abbrev pub invariant-loop-mpidr : goal.invariant-loop-mpidr
invariant-loop-mpidr l = All (IsName l.self l.board l.boot.number l.level) l.names.items
