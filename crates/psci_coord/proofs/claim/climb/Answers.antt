-- Each round adds the part of its level, and the climb ends where no depth is wanted.
use Rattle.std.proofs.Common.{◌∙◌, ◌≤◌, ℕ, length, arith, ap, sym, refl}
use Rattle.psci_board.specs.Board.{BoardValue}
use Rattle.psci_tree.specs.Recount.{TreeValue}
use Rattle.psci_tree.specs.Standing.{on_path}
use Rattle.psci_coord.specs.Wish.{wanted}
use Rattle.psci_messages.specs.Looked.{view_of}
use Rattle.psci_coord.proofs.Climbing.{climbed-ends, climbed-more, climbed-none, known-is}
use Rattle.psci_coord.proofs.Climbing.{node-is, wanted-is}
use Rattle.psci_coord.proofs.claim.climb.Goals as goal

pub loop-level-init : goal.loop-level-init
loop-level-init c =
    rw c.requires.none (climbed-none c.args.board.now (view_of c.args.tree.now)
    c.args.core.number
    (wanted c.args.board.now (view_of c.args.tree.now) c.args.core.number c.args.wish.now))

pub standing-standing-requires-clause-core : goal.standing-standing-requires-clause-core
standing-standing-requires-clause-core c = rw c.requires.board c.requires.core

pub standing-standing-requires-clause-level : goal.standing-standing-requires-clause-level
standing-standing-requires-clause-level c = omega (
  arith,
  c.loop-level-test.true,
  c.height-level-end.ensures.height,
  ap length c.requires.board,
)

pub loop-level-preserved : goal.loop-level-preserved
loop-level-preserved c =
    let b : BoardValue = c.args.board.now in
    let t : TreeValue = c.args.tree.now in
    let core : ℕ = c.args.core.number in
    let level : ℕ = c.loop-level.level in
    let wished = wanted b (view_of t) core c.args.wish.now in
    let high : level ≤ length t.levels = omega (
      arith,
      c.loop-level-test.true,
      c.height-level-end.ensures.height,
      ap length c.requires.board,
    ) in
    let node = node-is b t core level c.requires.board in
    let depth = c.depth-depth.ensures t (on_path t.levels core level) refl
    c.standing-standing.ensures.low
    ∙ wanted-is b t core level (on_path t.levels core level) c.args.wish.now c.requires.board
    node in
    let known = c.standing-standing.ensures.known
    ∙ known-is b t core level (on_path t.levels core level) c.requires.board node in
    rw c.push.ensures (climbed-more b (view_of t) core wished level c.loop-level.parts _
    c.loop-level.invariant
    (omega (arith, c.loop-level-test.true, c.height-level-end.ensures.height))
    refl depth known c.if-depth-eq0.false)

pub returns-then-depth-eq0 : goal.returns-then-depth-eq0
returns-then-depth-eq0 c =
    let b : BoardValue = c.args.board.now in
    let t : TreeValue = c.args.tree.now in
    let core : ℕ = c.args.core.number in
    let level : ℕ = c.loop-level.level in
    let wished = wanted b (view_of t) core c.args.wish.now in
    let high : level ≤ length t.levels = omega (
      arith,
      c.loop-level-test.true,
      c.height-level-end.ensures.height,
      ap length c.requires.board,
    ) in
    let depth = c.depth-depth.ensures t (on_path t.levels core level) refl
    c.standing-standing.ensures.low
    ∙ wanted-is b t core level (on_path t.levels core level) c.args.wish.now c.requires.board
    (node-is b t core level c.requires.board) in
    climbed-ends b (view_of t) core wished level c.loop-level.parts c.loop-level.invariant
    (sym depth ∙ c.if-depth-eq0.true)
