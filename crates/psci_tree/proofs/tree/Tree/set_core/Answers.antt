-- One core is in another state, and the domains above it keep what is so.
use Rattle.psci_tree.proofs.Words.{◌∙◌, ◌≡◌, ap, AreKept, CoreState, IsActivity, Kept, known_at}
use Rattle.psci_tree.proofs.Words.{List}
use Rattle.psci_tree.proofs.Words.{map, set, subst, sym, the_view, TreeValue, unwrap_or, with_items}
use Rattle.psci_tree.proofs.Words.{with_core_state, with_items_is, arith}
use Rattle.psci_tree.proofs.Seen.{core_seen, core_value, held_core, kept_in, way_seen}
use Rattle.psci_tree.proofs.tree.Tree.set_core.Goals.{After-change_core}
use Rattle.psci_tree.proofs.tree.Tree.set_core.Goals as goal

pub change_core-requires-clause-lead : goal.change_core-requires-clause-lead
change_core-requires-clause-lead c = record {
  tree = c.self.invariant.tied.valid.tree;
  high = c.self.invariant.tied.valid.high;
  core = core_seen c.self.inside _ c.self.view_is c.requires.core;
  way = way_seen c.self.inside _ c.self.invariant c.self.view_is c.requires.core c.index.ensures;
}

-- the states after the change
cores_set : (c : After-change_core) → c.change_core.new.cores
    ≡ set c.self.inside.cores.items c.args.core.number c.changed-state.result
cores_set c =
    c.change_core.ensures.cores
    ∙ ap (λ (cs : List CoreState). set cs c.args.core.number c.changed-state.result)
    c.deref_mut.ensures.value

cores_are : (c : After-change_core)
    → (with_items c.self.inside.cores c.change_core.new.cores).items ≡ c.change_core.new.cores
cores_are c = with_items_is c.self.inside.cores c.change_core.new.cores
    (omega (arith, c.change_core.auto.cores, c.deref_mut.ensures.len))

rows_are : (c : After-change_core)
    → (with_items c.self.inside.kept c.change_core.new.rows).items ≡ c.change_core.new.rows
rows_are c = with_items_is c.self.inside.kept c.change_core.new.rows
    (omega (arith, c.change_core.auto.rows, c.deref_mut-2.ensures.len))

pub invariant_of-self : goal.invariant_of-self
invariant_of-self c =
    let at = (goal.at.invariant_of-self c).After-change_core in
    let rows : List (List Kept) = map (λ v. v.items) c.change_core.new.rows in
    let kept : AreKept c.self.inside.board.levels
    (set c.self.inside.cores.items c.args.core.number c.changed-state.result) rows =
    subst (λ (cs : List CoreState). AreKept c.self.inside.board.levels cs rows) (cores_set at)
    c.change_core.ensures.kept in
    rw (rows_are at, cores_are at, cores_set at) (held_core (kept_in c.self.inside) rows _
    (the_view c.self.inside) c.args.core.number c.changed-state.result c.self.invariant
    (core_seen c.self.inside _ c.self.view_is c.requires.core)
    (subst IsActivity (sym (ap (λ s. s.activity) c.changed-state.ensures)) c.requires.activity)
    kept)

pub returns-clause-value : goal.returns-clause-value
returns-clause-value c =
    let at = (goal.at.returns-clause-value c).After-change_core in
    core_value (kept_in c.self.inside) _ (the_view c.self.inside) c.args.core.number _ _
    (record { activity = c.args.activity; started = c.args.started }) _ c.self.invariant
    (core_seen c.self.inside _ c.self.view_is c.requires.core) c.index-before.ensures
    c.changed-state.ensures (cores_are at ∙ cores_set at)
    ∙ ap (λ (t : TreeValue). with_core_state t c.args.core.number c.args.activity
    (unwrap_or c.args.started (known_at t c.args.core.number))) c.self.view_is

pub returns-clause-levels : goal.returns-clause-levels
returns-clause-levels c = ap (λ (t : TreeValue). t.levels) c.self.view_is

pub returns-clause-tree : goal.returns-clause-tree
returns-clause-tree c = (invariant_of-self c).tied.valid
