-- The lemmas on a core's own calls.
use Rattle.psci_shared.proofs.Crossing as own
use Rattle.psci_shared.proofs.laws.law_own_calls.Goals as goal

pub returns-clause-status : goal.returns-clause-status
returns-clause-status c = own.has_seen

pub returns-clause-asked : goal.returns-clause-asked
returns-clause-asked c = own.asked

pub returns-clause-entered : goal.returns-clause-entered
returns-clause-entered c = own.entered
