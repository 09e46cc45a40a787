-- What is spelled is read again, and what is read is spelled so.
use Rattle.psci_script.proofs.EventLines.{line_again, line_takes}
use Rattle.psci_script.proofs.laws.law_event_lines.Goals as goal

pub returns : goal.returns
returns c = record {
  again = line_again c.law_text.ensures;
  spelled = line_takes c.law_text.ensures;
}
