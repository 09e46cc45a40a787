-- One core at a time is inside the firmware.
use Rattle.psci_port.proofs.Running.{run_locked}
use Rattle.psci_port.proofs.laws.law_lock.Goals as goal

pub returns : goal.returns
returns c = run_locked
