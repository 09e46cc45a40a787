-- The domains of one level more are counted.
use Rattle.std.proofs.Common.{ℕ, ◌≤◌, arith}
use Rattle.psci_board.specs.Board.{height}
use Rattle.psci_tree.specs.Recount.{level_sizes}
use Rattle.psci_tree.proofs.Granted.{length_level_sizes, size_of_level}
use Rattle.psci_tree.proofs.SavedRows.{sum_more}
use Rattle.psci_tree.proofs.saved.count_below.Goals as goal

pub loop-level-preserved : goal.loop-level-preserved
loop-level-preserved c =
    let b = c.args.board.now in
    let k : ℕ = c.loop-level.level in
    let now = c.loop-level.invariant in
    let low : k ≤ height b = omega (arith, c.loop-level-test.true, c.requires) in
    let many = c.nodes.ensures.there low in
    let laws = c.law_sizes.ensures b c.height-height.ensures.board in
    record {
      count = omega (
        arith,
        now.count,
        many,
        size_of_level b.levels k low,
        sum_more (level_sizes b.levels) k (omega (arith, low, length_level_sizes b.levels)),
      );
      few = omega (arith, now.few, many, laws.most k);
    }

pub returns-clause-few : goal.returns-clause-few
returns-clause-few c =
    omega (
      arith,
      c.loop-level.invariant.few,
      c.loop-level.auto.level-end,
      c.requires,
      c.height-height.ensures.board.high,
    )
