-- A core that a word has suspended asks the depths of the word's states.
use Rattle.psci_platform_safe.proofs.Suspended.{asks_by_word}
use Rattle.psci_platform_safe.proofs.laws.law_asks_on.Goals as goal

pub returns : goal.returns
returns c = λ p r past regs mpidr word entry context sent board is.
    asks_by_word p r past regs mpidr word entry context sent board is
