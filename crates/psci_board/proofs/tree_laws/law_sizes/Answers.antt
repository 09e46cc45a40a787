-- The lemmas on the sizes of levels.
use Rattle.psci_board.proofs.Paths.{size_laws}
use Rattle.psci_board.proofs.tree_laws.law_sizes.Goals as goal

pub returns : goal.returns
returns c = size_laws
