-- One level more is loaded, and at the end all of them.
use Rattle.std.proofs.Common.{◌≡◌, ℕ, List, ◌+◌, ◌≤◌, ◌<◌, length, drop, sum, ap, sym, ◌∙◌, arith}
use Rattle.std.proofs.lemmas.List.{length-map}
use Rattle.std.proofs.lemmas.List.Elements.{All-drop}
use Rattle.psci_board.specs.Board.{height, nodes}
use Rattle.psci_ctl.specs.Saved.{level_sizes}
use Rattle.psci_ctl.proofs.Loaded.{all_sums, level_left, level_shape, level_sums, level_words}
use Rattle.psci_ctl.proofs.loading.load_domains.Goals as goal

pub loop-level-preserved : goal.loop-level-preserved
loop-level-preserved c =
    let b = c.args.board.now in
    let k : ℕ = c.loop-level.level in
    let now = c.loop-level.invariant in
    let low : k ≤ height b =
    omega (arith, c.loop-level-test.true, c.height-level-end.ensures.height) in
    let many : c.nodes.result ≡ nodes b k = c.nodes.ensures.there low in
    let inside : k < length c.loop-level.levels = omega (arith, now.shape.levels, low) in
    let left : length c.loop-level.rest.now
    ≡ nodes b k + sum (drop (k + 1) (level_sizes b.levels)) =
    level_left b k _ low now.left in
    record {
      shape = level_shape b k c.loop-level.levels c.load.new.self low now.shape
          (sym (length-map c.load.new.self _)
          ∙ ap (λ (xs : List ℕ). length xs) c.load.ensures.depths
          ∙ c.split_at.ensures.front_len ∙ many);
      done = rw (c.split_at.ensures.back)
          (level_words k c.nodes.result c.loop-level.levels c.load.new.self _ _ inside now.done
          (c.load.ensures.depths ∙ c.split_at.ensures.front));
      sums = level_sums b c.args.rows.now k c.loop-level.levels c.load.new.self inside now.sums
          c.load.ensures.sums;
      left = omega (arith, c.split_at.ensures.back_len, many, left);
      few = rw (c.split_at.ensures.back) (All-drop (λ (d : ℕ). d ≤ 3) c.nodes.result _ now.few);
    }

pub returns-clause-sums : goal.returns-clause-sums
returns-clause-sums c =
    let b = c.args.board.now in
    let now = c.loop-level.invariant in
    all_sums b c.args.rows.now c.loop-level.levels
    (c.law_paths.ensures b c.height-level-end.ensures.board) now.shape
    (λ m p h inside. now.sums m p
    (omega (arith, h, c.loop-level-test.false, c.height-level-end.ensures.height)) inside)
