-- Each test of a new firmware's values tells what is kept, and a new firmware's pass them.
use Rattle.psci_fw_state.proofs.New.{new_is, start_is}
use Rattle.psci_fw_state.proofs.saved_laws.law_new.Goals as goal

pub returns-clause-values : goal.returns-clause-values
returns-clause-values c = new_is

pub returns-clause-only : goal.returns-clause-only
returns-clause-only c = start_is
