-- What is told beside a call is what the firmware is asked for.
use Rattle.psci_platform.proofs.OwnStates.{state_laws, down, silent, told}
use Rattle.psci_platform.proofs.law.law_asked.Goals as goal

pub returns-clause-states : goal.returns-clause-states
returns-clause-states c = λ d b boot place x1 mode state entry context states none e.
    told d b boot place x1 mode state entry context states state_laws none e

pub returns-clause-none : goal.returns-clause-none
returns-clause-none c = silent

pub returns-clause-system : goal.returns-clause-system
returns-clause-system c = down
