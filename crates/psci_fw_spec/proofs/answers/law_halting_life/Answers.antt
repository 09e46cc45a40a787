-- A halting life: a core stops, and nothing is sent.
use Rattle.psci_fw_spec.proofs.Words.{refl}
use Rattle.psci_fw_spec.specs.Answer.{enter_outcome, outcome_of}
use Rattle.psci_fw_spec.proofs.answers.law_halting_life.Goals as goal

pub returns-clause-calls : goal.returns-clause-calls
unfolding outcome_of
returns-clause-calls c b v k r halts = rw halts refl

pub returns-clause-enters : goal.returns-clause-enters
unfolding enter_outcome
returns-clause-enters c b v k s halts = rw halts refl
