-- What is read of a text is a board.
use Rattle.psci_board.proofs.Decided.{board_of_text}
use Rattle.psci_board.proofs.tree_laws.law_boards.Goals as goal

pub returns : goal.returns
returns c = board_of_text
