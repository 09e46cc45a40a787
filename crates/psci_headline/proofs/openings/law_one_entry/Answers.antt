-- Entries take up openings, each one of its own.
use Rattle.psci_headline.proofs.Entering.{are_taken_up}
use Rattle.psci_headline.proofs.openings.law_one_entry.Goals as goal

pub returns : goal.returns
returns c = are_taken_up
