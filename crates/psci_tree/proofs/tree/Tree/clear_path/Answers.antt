-- Where nothing is granted to the core, its path is clear; else it is cleared.
use Rattle.psci_tree.proofs.Words.{◌∙◌, arith, refl, sym}
use Rattle.psci_tree.proofs.Granted.{none_to_clear, path_valid}
use Rattle.psci_tree.proofs.Seen.{core_seen, way_seen, held_with, held_seen, rows_seen}
use Rattle.psci_tree.proofs.tree.Tree.clear_path.Goals as goal

pub returns-then-granted-eq0-clause-value : goal.returns-then-granted-eq0-clause-value
returns-then-granted-eq0-clause-value c =
    sym (none_to_clear c.args.self.now c.args.core.number c.granted.ensures.tree c.requires
    (sym c.granted.ensures.value ∙ c.if-granted-eq0.true))

pub clear_up-requires-clause-rows : goal.clear_up-requires-clause-rows
clear_up-requires-clause-rows c = record {
  granted = rw c.deref_mut.ensures.value c.self.invariant.tied.valid.granted;
  confirmed = rw c.deref_mut.ensures.value c.self.invariant.tied.valid.confirmed;
}

pub clear_up-requires-clause-lead : goal.clear_up-requires-clause-lead
clear_up-requires-clause-lead c = record {
  tree = c.self.invariant.tied.valid.tree;
  high = c.self.invariant.tied.valid.high;
  core = core_seen c.self.inside _ c.self.view_is c.requires;
  way = way_seen c.self.inside _ c.self.invariant c.self.view_is c.requires c.index-way.ensures;
}

pub returns-clause-value : goal.returns-clause-value
returns-clause-value c =
    let was = c.deref_mut.ensures.value in
    rows_seen c.self.inside c.args.self.now c.clear_up.new.rows _ _ c.self.view_is
    (omega (arith, c.clear_up.auto.rows, c.deref_mut.ensures.len))
    (rw (c.clear_up.ensures.granted, was, ← c.self.view_is))
    (rw (c.clear_up.ensures.confirmed, was, ← c.self.view_is))

pub invariant_of-self : goal.invariant_of-self
invariant_of-self c =
    held_with c.self.inside c.args.self.now _ _ c.self.invariant c.self.view_is
    (returns-clause-value c) refl refl (path_valid c.args.self.now c.args.core.number
    (held_seen c.self.inside _ c.self.invariant c.self.view_is).tied.valid)

pub returns-clause-tree : goal.returns-clause-tree
returns-clause-tree c = (invariant_of-self c).tied.valid
