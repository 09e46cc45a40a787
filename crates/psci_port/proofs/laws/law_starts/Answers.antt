-- Each core takes up its last start, and the words tell which cores stand.
use Rattle.psci_port.proofs.Running.{run_takes, run_words}
use Rattle.psci_port.proofs.laws.law_starts.Goals as goal

pub returns : goal.returns
returns c = record { each = run_takes; words = run_words }
