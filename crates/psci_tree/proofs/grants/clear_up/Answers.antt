-- The domain of each level is cleared, one after the other.
use Rattle.psci_tree.proofs.Words.{◌≤◌, arith, confirmed_of, Depths, get_or, granted_of, length}
use Rattle.psci_tree.proofs.Words.{length-map, List, map, refl, Way, ℕ}
use Rattle.psci_tree.specs.Way.{AreRows, LeadsTo}
use Rattle.psci_tree.proofs.Gone.{cleared_all, level_cleared}
use Rattle.psci_tree.proofs.Granted.{path_node}
use Rattle.psci_tree.proofs.DepthRows.{DepthRow, depth_row}
use Rattle.psci_tree.proofs.grants.clear_up.Goals as goal

-- the row of the domain of a level on a core's path
at_row : (levels : List (List ℕ)) (rows : List (List Depths)) (core l : ℕ) (way : Way)
    → LeadsTo levels core way → AreRows levels (granted_of rows) (confirmed_of rows)
    → l ≤ length levels
    → DepthRow rows (record { level = l; place = get_or way.places l 0 })
at_row levels rows core l way to are le =
    depth_row levels rows (record { level = l; place = get_or way.places l 0 }) are.granted
    (path_node levels core l way to.tree to.core to.way le)

pub loop-level-init : goal.loop-level-init
loop-level-init c = record { rows = c.requires.rows; granted = refl; confirmed = refl }

pub write-requires-clause-level : goal.write-requires-clause-level
write-requires-clause-level c =
    let rows : List (List Depths) = map (λ v. v.items) c.loop-level.rows in
    omega (
      arith,
      (at_row c.args.board.now.levels rows c.args.core.number c.loop-level.level c.args.way.now
          c.requires.lead c.loop-level.invariant.rows
          (omega (arith, c.if-level-height.false, c.height.ensures.height))).level,
      length-map c.loop-level.rows (λ v. v.items),
    )

pub write-requires-clause-place : goal.write-requires-clause-place
write-requires-clause-place c =
    (at_row c.args.board.now.levels (map (λ v. v.items) c.loop-level.rows) c.args.core.number
    c.loop-level.level c.args.way.now c.requires.lead c.loop-level.invariant.rows
    (omega (arith, c.if-level-height.false, c.height.ensures.height))).place

pub loop-level-preserved : goal.loop-level-preserved
loop-level-preserved c =
    let top : c.loop-level.level ≤ length c.args.board.now.levels =
    omega (arith, c.if-level-height.false, c.height.ensures.height) in
    level_cleared c.args.board.now.levels c.args.core.number _ _ _ c.loop-level.level _ top
    (c.requires.lead.way.places c.loop-level.level top) c.write.ensures c.loop-level.invariant

pub returns-then-level-height-clause-granted : goal.returns-then-level-height-clause-granted
returns-then-level-height-clause-granted c =
    (cleared_all c.args.board.now.levels c.args.core.number _ _ c.loop-level.level
    (omega (arith, c.if-level-height.true, c.height.ensures.height)) c.loop-level.invariant).0

pub returns-then-level-height-clause-confirmed : goal.returns-then-level-height-clause-confirmed
returns-then-level-height-clause-confirmed c =
    (cleared_all c.args.board.now.levels c.args.core.number _ _ c.loop-level.level
    (omega (arith, c.if-level-height.true, c.height.ensures.height)) c.loop-level.invariant).1
