-- The values before any core has entered, and after one more exchange.
use Rattle.psci_fw_spec.proofs.Stopping.{values_more, values_none}
use Rattle.psci_fw_spec.proofs.laws.law_values.Goals as goal

pub returns : goal.returns
returns c = record { first = values_none; more = values_more }
