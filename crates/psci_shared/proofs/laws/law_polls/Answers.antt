-- The lemmas on polls.
use Rattle.psci_shared.proofs.Written as polling
use Rattle.psci_shared.proofs.laws.law_polls.Goals as goal

pub returns-clause-keeps : goal.returns-clause-keeps
returns-clause-keeps c = polling.keeps

pub returns-clause-stands : goal.returns-clause-stands
returns-clause-stands c = polling.stands

pub returns-clause-polled : goal.returns-clause-polled
returns-clause-polled c = polling.polled
