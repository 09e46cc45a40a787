-- Words that a platform does not have name nothing.
use Rattle.psci_platform.proofs.Swaps.{no_core_is_named, no_function_is_known}
use Rattle.psci_platform.proofs.Swaps.{no_node_is_named, no_power_state}
use Rattle.psci_platform.proofs.law.law_missing.Goals as goal

pub returns-clause-function : goal.returns-clause-function
returns-clause-function c = no_function_is_known

pub returns-clause-state : goal.returns-clause-state
returns-clause-state c = no_power_state

pub returns-clause-core : goal.returns-clause-core
returns-clause-core c = λ b board. no_core_is_named b (c.law_words.ensures b board)

pub returns-clause-node : goal.returns-clause-node
returns-clause-node c =
    λ b level board. no_node_is_named b board (c.law_words.ensures b board) level
