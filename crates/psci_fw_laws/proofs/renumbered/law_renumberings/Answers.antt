-- What is asked of renumbered cores, and which cores may be renumbered.
use Rattle.psci_board.proofs.Paths.{child_laws}
use Rattle.psci_board.proofs.Named.{word_laws}
use Rattle.psci_board.proofs.Named.{parent_laws}
use Rattle.psci_board.proofs.Paths.{path_laws}
use Rattle.psci_fw_laws.proofs.Numberings.{renumbers, told}
use Rattle.psci_fw_laws.proofs.Numberings.{siblings, twins}
use Rattle.psci_fw_laws.proofs.renumbered.law_renumberings.Goals as goal

pub returns : goal.returns
returns c = record {
  told = λ b s r board is. told b s r (renumbers b s board is) (word_laws b board);
  siblings = λ b x y board. siblings b x y (path_laws b board);
  twins = λ b p q board.
      twins b p q board (path_laws b board) (child_laws b board) (parent_laws b board);
}
