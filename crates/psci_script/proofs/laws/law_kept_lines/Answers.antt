-- A kept line is an event line, and event lines are read as they are spelled.
use Rattle.psci_script.proofs.KeptLines.{reads_as_kept}
use Rattle.psci_script.proofs.laws.law_kept_lines.Goals as goal

pub returns : goal.returns
returns c = reads_as_kept c.law_event_lines.ensures.again
