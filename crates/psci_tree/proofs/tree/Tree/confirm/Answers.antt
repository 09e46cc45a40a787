-- What was granted to one domain is confirmed, and the rest stays.
use Rattle.std.proofs.lemmas.List.{set-get_or}
use Rattle.psci_tree.proofs.Words.{◌∙◌, ◌≡◌, [], ap, arith, depth_set, Depths, get_or}
use Rattle.psci_tree.proofs.Words.{granted_at, List, Node, refl, set, TreeValue, ℕ}
use Rattle.psci_tree.specs.Changes.{with_confirmed}
use Rattle.psci_tree.proofs.Seen.{depths_seen, depths_with, held_seen, held_with}
use Rattle.psci_tree.proofs.Granted.{confirmed_valid}
use Rattle.psci_tree.proofs.tree.Tree.confirm.Goals as goal

-- a depth written where it was
same_set : (gs : List (List ℕ)) (n : Node)
    → depth_set gs n (get_or (get_or gs n.level []) n.place 0) ≡ gs
same_set gs n =
    ap (set gs n.level) (set-get_or (get_or gs n.level []) n.place 0)
    ∙ set-get_or gs n.level []

pub returns-clause-value : goal.returns-clause-value
unfolding with_confirmed
returns-clause-value c =
    let n : Node = c.args.node in
    let t : TreeValue = c.args.self.now in
    let now = (depths_seen c.self.inside _ _ c.self.invariant c.self.view_is c.requires.domain
    c.deref.ensures.value c.depths_at.ensures).granted in
    let new = c.confirm-depths.ensures in
    depths_with c.self.inside t n c.write.new.rows c.confirm-depths.result c.self.view_is
    (omega (arith, c.write.auto.rows, c.deref_mut.ensures.len)) c.deref_mut.ensures.value
    c.write.ensures (ap (λ (d : Depths). d.granted) new ∙ now)
    (ap (λ (d : Depths). d.confirmed) new ∙ now)
    ∙ ap (λ gs. record t {
      granted = gs;
      confirmed = depth_set t.confirmed n (granted_at t n.level n.place);
    }) (same_set t.granted n)

pub invariant_of-self : goal.invariant_of-self
unfolding with_confirmed
invariant_of-self c =
    held_with c.self.inside c.args.self.now _ _ c.self.invariant c.self.view_is
    (returns-clause-value c) refl refl
    (confirmed_valid c.args.self.now c.args.node
    (held_seen c.self.inside _ c.self.invariant c.self.view_is).tied.valid c.requires.domain)

pub returns-clause-tree : goal.returns-clause-tree
returns-clause-tree c = (invariant_of-self c).tied.valid
