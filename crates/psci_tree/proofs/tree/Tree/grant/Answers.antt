-- One domain is granted another depth, and the rest stays.
use Rattle.psci_tree.proofs.Words.{◌==◌, ◌∙◌, ap, arith, cond, Depths, granted_at, Node, refl}
use Rattle.psci_tree.proofs.Words.{TreeValue, ℕ}
use Rattle.psci_tree.specs.Changes.{with_grant}
use Rattle.psci_tree.proofs.Seen.{depths_seen, depths_with, held_seen, held_with, place_seen}
use Rattle.psci_tree.proofs.Granted.{grant_valid}
use Rattle.psci_tree.proofs.tree.Tree.grant.Goals as goal

pub depths_at-requires-clause-level : goal.depths_at-requires-clause-level
depths_at-requires-clause-level c =
    (place_seen c.self.inside _ c.args.node c.self.invariant c.self.view_is c.requires.domain
    c.deref.ensures.value).level

pub write-requires-clause-level : goal.write-requires-clause-level
write-requires-clause-level c =
    (place_seen c.self.inside _ c.args.node c.self.invariant c.self.view_is c.requires.domain
    c.deref_mut.ensures.value).level

pub returns-clause-value : goal.returns-clause-value
unfolding with_grant
returns-clause-value c =
    let n : Node = c.args.node in
    let t : TreeValue = c.args.self.now in
    let depth : ℕ = c.args.depth in
    let now = depths_seen c.self.inside _ _ c.self.invariant c.self.view_is c.requires.domain
    c.deref.ensures.value c.depths_at.ensures in
    let new = c.grant-depths.ensures in
    depths_with c.self.inside t n c.write.new.rows c.grant-depths.result c.self.view_is
    (omega (arith, c.write.auto.rows, c.deref_mut.ensures.len)) c.deref_mut.ensures.value
    c.write.ensures (ap (λ (d : Depths). d.granted) new)
    (ap (λ (d : Depths). d.confirmed) new
    ∙ ap (λ x. cond (x == depth) c.depths_at.result.confirmed 0) now.granted
    ∙ ap (λ y. cond (granted_at t n.level n.place == depth) y 0) now.confirmed)

pub invariant_of-self : goal.invariant_of-self
unfolding with_grant
invariant_of-self c =
    held_with c.self.inside c.args.self.now _ _ c.self.invariant c.self.view_is
    (returns-clause-value c) refl refl
    (grant_valid c.args.self.now c.args.node c.args.depth
    (held_seen c.self.inside _ c.self.invariant c.self.view_is).tied.valid c.requires.domain
    c.requires.depth)

pub returns-clause-tree : goal.returns-clause-tree
returns-clause-tree c = (invariant_of-self c).tied.valid
