-- How many words there are, that they are such as are loaded, and what they tell.
use Rattle.std.proofs.Common.{sym, ap, ◌∙◌}
use Rattle.psci_board.specs.Board.{size_below}
use Rattle.psci_board.specs.psci_abi.declared.registers.Format.TheVariants.{Extended}
use Rattle.psci_tree.proofs.SavedCores.{Written, cores_good, cores_told, many_cores}
use Rattle.psci_tree.proofs.SavedTrees.{activities, depths_good, many_depths, same_tree}
use Rattle.psci_tree.proofs.saved_laws.law_tree_words.Goals.{After-law_power_states}
use Rattle.psci_tree.proofs.saved_laws.law_tree_words.Goals as goal

written : After-law_power_states → Written
written c = c.law_power_states.ensures.written Extended 3

pub returns-clause-core_count : goal.returns-clause-core_count
returns-clause-core_count c = many_cores

pub returns-clause-depth_count : goal.returns-clause-depth_count
returns-clause-depth_count c = many_depths

pub returns-clause-cores : goal.returns-clause-cores
returns-clause-cores c = λ t v few.
    cores_good t.cores (written (goal.at.returns-clause-cores c).After-law_power_states)
    (activities t v) few

pub returns-clause-depths : goal.returns-clause-depths
returns-clause-depths c = depths_good

pub returns-clause-same : goal.returns-clause-same
returns-clause-same c = λ t u v w l e f.
    let cores = cores_told t.cores u.cores
    (written (goal.at.returns-clause-same c).After-law_power_states) (activities t v)
    (activities u w)
    (v.cores ∙ ap (λ ls. size_below ls) l ∙ sym w.cores) e in
    same_tree t u v w l cores f
