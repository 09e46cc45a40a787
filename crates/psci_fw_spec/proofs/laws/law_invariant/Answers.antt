-- The invariant holds at the start, and after each function, entry and acknowledgement.
use Rattle.psci_fw_spec.proofs.Always.{answer_values, enter_values, first_values, function_values}
use Rattle.psci_fw_spec.proofs.Always.{legal_values}
use Rattle.psci_fw_spec.proofs.Changing.{kept_acknowledged}
use Rattle.psci_fw_spec.proofs.laws.law_invariant.Goals as goal

pub returns : goal.returns
returns c = record {
  first = first_values;
  function = function_values;
  enter = enter_values;
  take = kept_acknowledged;
  answer = answer_values;
  legal = legal_values;
}
