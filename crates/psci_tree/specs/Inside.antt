-- How the rows in memory and the value of a tree belong together.
use Rattle.std.specs.Prelude.{List}
use Rattle.psci_tree.specs.declared.kept.Kept.{Kept}
use Rattle.psci_tree.specs.declared.way.Way.{Way}
use Rattle.psci_tree.specs.Kept.{AreKept}
use Rattle.psci_tree.specs.Recount.{TreeValue, IsDomainTree}
use Rattle.psci_tree.specs.Way.{AreWays}

-- each domain above the cores keeps the recount of the cores below it
pub record IsTied (rows : List (List Kept)) (t : TreeValue) : Type 0 where
  pub kept : AreKept t.levels t.cores rows
  pub valid : IsDomainTree t

-- and the ways lead to the cores
pub record IsHeld (rows : List (List Kept)) (ways : List Way) (t : TreeValue) : Type 0 where
  pub tied : IsTied rows t
  pub lead : AreWays t.levels ways
