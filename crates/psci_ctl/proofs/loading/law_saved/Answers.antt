-- What is saved says what is seen, and has no fault.
use Rattle.psci_ctl.proofs.SavedFaults.{no_fault, one_word, same_seen}
use Rattle.psci_ctl.proofs.loading.law_saved.Goals as goal

pub returns-clause-same : goal.returns-clause-same
returns-clause-same c = same_seen

pub returns-clause-whole : goal.returns-clause-whole
returns-clause-whole c = no_fault

pub returns-clause-told : goal.returns-clause-told
returns-clause-told c = one_word
