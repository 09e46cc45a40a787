-- An MPIDR names for the firmware what it names on the machine.
use Rattle.psci_platform.proofs.Words.{boot_place, BoardValue, IsBoard}
use Rattle.psci_platform.proofs.Swaps.{core_is, laws_of, node_is}
use Rattle.psci_platform.proofs.Named.{BoardLaws, laws_on}
use Rattle.psci_platform.proofs.law.law_named.Goals as goal

pub returns : goal.returns
returns c =
    let laws : (b : BoardValue) → IsBoard b → BoardLaws b = λ b board.
    laws_on b board (c.law_sizes.ensures b board) (c.law_paths.ensures b board)
    (c.law_parents.ensures b board) (c.law_words.ensures b board) in
    record {
      core = λ d b boot mpidr board none.
          core_is d b (boot_place d b boot) (laws_of d b boot (laws b board) none) mpidr;
      node = λ d b boot mpidr level board none low.
          node_is d b (boot_place d b boot) (laws_of d b boot (laws b board) none) mpidr level;
    }
