-- What a tree keeps of its cores and domains, where every core is off.
use Rattle.std.specs.Prelude.{◌≡◌, map, replicate}
use Rattle.psci_board.specs.Board.{BoardValue, IsBoard, size_below}
use Rattle.psci_state.specs.PowerState.{power_down}
use Rattle.psci_tree.specs.Changes.{rows_with_depth}
use Rattle.psci_tree.specs.DepthRows.{confirmed_of, granted_of}
use Rattle.psci_tree.specs.Kept.{AreKept}
use Rattle.psci_tree.specs.Recount.{level_sizes, never_started}
use Rattle.psci_tree.specs.Way.{AreWays}
use Rattle.psci_tree.specs.declared.beside.Rows.{Rows}

-- every core is off, the ways lead to them, each domain keeps so much, and is granted power-down,
-- which is confirmed
pub record AreFull (b : BoardValue) (rows : Rows) : Type 0 where
  pub board : IsBoard b
  pub cores : rows.cores.items ≡ replicate (size_below b.levels) never_started
  pub ways : AreWays b.levels rows.ways.items
  pub kept : AreKept b.levels (replicate (size_below b.levels) never_started)
      (map (λ v. v.items) rows.kept.items)
  pub granted : granted_of (map (λ v. v.items) rows.depths.items)
      ≡ rows_with_depth (level_sizes b.levels) power_down
  pub confirmed : confirmed_of (map (λ v. v.items) rows.depths.items)
      ≡ rows_with_depth (level_sizes b.levels) power_down
