-- All levels stand below the one above the system.
use Rattle.std.proofs.Common.{◌+◌, ap, arith, sum, ◌∙◌}
use Rattle.std.proofs.lemmas.List.{take_all}
use Rattle.psci_tree.specs.Recount.{level_sizes}
use Rattle.psci_tree.proofs.Granted.{length_level_sizes}
use Rattle.psci_tree.proofs.tree.Tree.domain_count.Goals as goal

pub returns-clause-count : goal.returns-clause-count
returns-clause-count c =
    let levels = c.args.self.now.levels in
    c.domains_below.ensures.count
    ∙ ap (λ ns. sum ns) (take_all (c.height.result + 1) (level_sizes levels)
    (omega (arith, length_level_sizes levels, c.height.ensures.height)))
