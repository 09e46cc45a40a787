-- Each call of renumbered cores, and what is kept after it.
use Rattle.psci_fw_laws.proofs.Changing.{answer-by, outcome_of-by}
use Rattle.psci_fw_laws.proofs.Following.{after-by, legal-by, values_of-by}
use Rattle.psci_fw_laws.proofs.Numberings.{renumbers}
use Rattle.psci_fw_laws.proofs.renumbered.law_no_core_is_special.Goals as goal

pub returns : goal.returns
returns c = record {
  functions = λ b s v k r q board is. outcome_of-by (renumbers b s board is) v k r q;
  answers = λ b s v k call other board is. answer-by (renumbers b s board is) v k call other;
  after = λ b s v k call other reply board is.
      after-by (renumbers b s board is) v k call other reply;
  values = λ b s h g board is. values_of-by (renumbers b s board is) h g;
  legal = λ b s h g board is. legal-by (renumbers b s board is) h g;
}
