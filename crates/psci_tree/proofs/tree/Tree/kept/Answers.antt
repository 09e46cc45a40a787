-- What is kept of a node is kept of the cores that the tree has below it.
use Rattle.psci_tree.proofs.Words.{◌∙◌, ◌∷◌, ◌≡◌, [], ap, CoreState, get_or, Keeps, kept_at}
use Rattle.psci_tree.proofs.Words.{List, map, Node, SpanLaws, subst, TreeValue}
use Rattle.psci_tree.proofs.Changed.{node_keeps}
use Rattle.psci_tree.proofs.Seen.{held_seen, kept_in, states_slice}
use Rattle.psci_tree.proofs.tree.Tree.kept.Goals as goal

pub returns : goal.returns
returns c =
    let t : TreeValue = c.args.self.now in
    let n : Node = c.args.node in
    let held = held_seen c.self.inside t c.self.invariant c.self.view_is in
    let laws : SpanLaws t.levels = c.law_spans.ensures t.levels held.tied.valid.tree in
    let same : c.deref.result.now ≡ t.cores =
    c.deref.ensures.value ∙ ap (λ (v : TreeValue). v.cores) c.self.view_is in
    rw (states_slice t n laws held.tied.valid.cores c.requires)
    (node_keeps t.levels t.cores (kept_in c.self.inside) n c.kept_of.result laws
    held.tied.valid.cores c.requires
    (λ d e. subst (λ (cs : List CoreState). Keeps 0 c.kept_of.result (get_or cs n.place d ∷ []))
    same (c.kept_of.ensures.core d e))
    (λ some. c.kept_of.ensures.domain some
    ∙ ap (λ vs. kept_at (map (λ v. v.items) vs) n.level n.place) c.deref-2.ensures.value)
    (λ some. held.tied.kept.each n.level some c.requires.level))
