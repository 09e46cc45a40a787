-- A core that is not started does nothing.
use Rattle.psci_world.proofs.OnTheWay.{settles_none}
use Rattle.psci_world.proofs.settling.enter_if_started.Goals as goal

pub returns-else-eq-clause-events : goal.returns-else-eq-clause-events
returns-else-eq-clause-events c = settles_none
