-- The domains that are looked at are on the board.
use Rattle.std.proofs.Common.{◌≤◌, arith}
use Rattle.psci_board.specs.Board.{height}
use Rattle.psci_osi.proofs.Gathered.{tree-at}
use Rattle.psci_osi.proofs.off.highest_off.Goals as goal

pub is_off-requires-clause-node : goal.is_off-requires-clause-node
is_off-requires-clause-node c =
    let b = c.args.board.now in
    let core = c.args.core.number in
    let level = c.loop-level.level in
    let laws = c.law_paths.ensures b c.height-level-end.ensures.board in
    let low : level ≤ height b = omega
    (arith, c.loop-level-test.true, c.height-level-end.ensures.height) in
    rw (tree-at b c.args.tree.now.levels core level c.on_path.result c.on_path.ensures
    c.requires.board) (record { level = low; place = laws.inside core level c.requires.core low })
