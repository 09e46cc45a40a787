-- To each list of calls there is one history.
use Rattle.psci_ctl_spec.proofs.Steps.{one_history, some_history}
use Rattle.psci_ctl_spec.proofs.laws.law_one_reply.Goals as goal

pub returns : goal.returns
returns c = record { some = some_history; only = one_history }
