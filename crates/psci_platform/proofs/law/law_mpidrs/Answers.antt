-- The MPIDRs of a description that has no fault name its cores.
use Rattle.psci_platform.proofs.Named.{boot_is_zero, core_is_named}
use Rattle.psci_platform.proofs.ByWord.{some_count}
use Rattle.psci_platform.proofs.law.law_mpidrs.Goals as goal

pub returns-clause-count : goal.returns-clause-count
returns-clause-count c = some_count

pub returns-clause-boot : goal.returns-clause-boot
returns-clause-boot c = λ d b boot board none.
    boot_is_zero d b boot (record {
      sizes = c.law_sizes.ensures b board;
      paths = c.law_paths.ensures b board;
      parents = c.law_parents.ensures b board;
    }) none

pub returns-clause-core : goal.returns-clause-core
returns-clause-core c = core_is_named
