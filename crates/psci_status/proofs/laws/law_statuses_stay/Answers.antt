-- The status of a core that is not named stays.
use Rattle.psci_status.proofs.Past as last
use Rattle.psci_status.proofs.laws.law_statuses_stay.Goals as goal

pub returns : goal.returns
returns c = last.status_stays
