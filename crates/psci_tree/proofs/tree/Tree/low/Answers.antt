-- The least ask is kept in the domain; above the board nothing is asked.
use Rattle.std.proofs.lemmas.List.FromFn.{length-range_with_len}
use Rattle.psci_tree.proofs.Words.{◌<◌, ◌∙◌, ap, arith, below_in, length, low_in, refl, span}
use Rattle.psci_tree.proofs.Words.{SpanLaws, sym, TreeValue}
use Rattle.psci_tree.proofs.Gone.{low_above, low_is, states}
use Rattle.psci_tree.proofs.Seen.{held_seen}
use Rattle.psci_tree.proofs.tree.Tree.low.Goals as goal

pub returns-then-level-height : goal.returns-then-level-height
returns-then-level-height c =
    let t : TreeValue = c.args.self.now in
    let held = held_seen c.self.inside t c.self.invariant c.self.view_is in
    let laws : SpanLaws t.levels = c.law_spans.ensures t.levels held.tied.valid.tree in
    let some : 0 < length (below_in t.levels c.args.node) = omega (
      arith,
      ap length (laws.cores c.args.node c.requires),
      length-range_with_len (span t.levels c.args.node).first (span t.levels c.args.node).count,
      laws.some c.args.node c.requires,
    ) in
    low_above t c.args.node c.args.level some (omega (
      arith,
      c.if-level-height.true,
      c.height.ensures.height,
      ap (λ (v : TreeValue). length v.levels) c.self.view_is,
    ))

pub returns-then-level-node : goal.returns-then-level-node
returns-then-level-node c =
    c.low.ensures c.args.node.level _ c.kept.ensures
    ∙ ap (λ l. low_in l (states c.args.self.now c.args.node)) (sym c.if-level-node.true)
    ∙ low_is c.args.self.now c.args.node c.args.level _ refl (omega (
      arith,
      c.if-level-height.false,
      c.height.ensures.height,
      ap (λ (v : TreeValue). length v.levels) c.self.view_is,
    ))

pub returns : goal.returns
returns c =
    c.least_of.ensures ∙ ap (low_in c.args.level) c.states.ensures
    ∙ low_is c.args.self.now c.args.node c.args.level _ refl (omega (
      arith,
      c.if-level-height.false,
      c.height.ensures.height,
      ap (λ (v : TreeValue). length v.levels) c.self.view_is,
    ))
