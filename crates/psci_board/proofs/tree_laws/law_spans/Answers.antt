-- The lemmas on spans of cores.
use Rattle.psci_board.proofs.Paths.{span_laws}
use Rattle.psci_board.proofs.tree_laws.law_spans.Goals as goal

pub returns : goal.returns
returns c = span_laws
