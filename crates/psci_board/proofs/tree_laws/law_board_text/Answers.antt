-- What is spelled is read again, and what is read is spelled so.
use Rattle.psci_board.proofs.SpelledText.{text_again, text_takes}
use Rattle.psci_board.proofs.tree_laws.law_board_text.Goals as goal

pub returns : goal.returns
returns c = record {
  again = text_again;
  spelled = text_takes;
}
