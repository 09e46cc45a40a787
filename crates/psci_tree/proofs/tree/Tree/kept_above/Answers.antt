-- What is kept of a domain is kept of the cores that the tree has below it.
use Rattle.psci_tree.proofs.Words.{◌∙◌, ap, kept_at, map, Node, SpanLaws, TreeValue}
use Rattle.psci_tree.proofs.Seen.{held_seen, states_slice}
use Rattle.psci_tree.proofs.tree.Tree.kept_above.Goals as goal

pub returns : goal.returns
returns c =
    let t : TreeValue = c.args.self.now in
    let n : Node = c.args.node in
    let held = held_seen c.self.inside t c.self.invariant c.self.view_is in
    let laws : SpanLaws t.levels = c.law_spans.ensures t.levels held.tied.valid.tree in
    rw (
      states_slice t n laws held.tied.valid.cores c.requires.domain,
      c.kept_at.ensures
          ∙ ap (λ vs. kept_at (map (λ v. v.items) vs) n.level n.place) c.deref.ensures.value,
    )
    (held.tied.kept.each n.level c.requires.above c.requires.domain.level n.place
    c.requires.domain.place)
