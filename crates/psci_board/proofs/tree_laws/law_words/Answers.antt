-- The lemmas on affinity words.
use Rattle.psci_board.proofs.Named.{word_laws}
use Rattle.psci_board.proofs.tree_laws.law_words.Goals as goal

pub returns : goal.returns
returns c = word_laws
