-- The domain on the core's path was granted what is asked of it.
use Rattle.std.proofs.Common.{◌∙◌}
use Rattle.psci_fw_state.specs.contracts.state.State.{the_view}
use Rattle.psci_fw_state.proofs.SavedWords.{depth_here, node_here, node_in}
use Rattle.psci_fw_state.proofs.state.State.is_domain_awake.Goals as goal

pub granted-granted-requires : goal.granted-granted-requires
granted-granted-requires c =
    node_in (the_view c.self.inside) c.args.core.number c.args.level c.self.invariant
    (rw (← c.self.view_is) at c.requires.core) (rw (← c.self.view_is) at c.requires.level)
    c.deref.result.now c.deref.ensures c.on_path-node.result c.on_path-node.ensures
    c.deref-2.result.now c.deref-2.ensures

pub low-asked-requires : goal.low-asked-requires
low-asked-requires c =
    node_in (the_view c.self.inside) c.args.core.number c.args.level c.self.invariant
    (rw (← c.self.view_is) at c.requires.core) (rw (← c.self.view_is) at c.requires.level)
    c.deref.result.now c.deref.ensures c.on_path-node.result c.on_path-node.ensures
    c.deref-3.result.now c.deref-3.ensures

pub are_all_away-away-requires : goal.are_all_away-away-requires
are_all_away-away-requires c =
    rw (← c.self.view_is) (node_here (the_view c.self.inside) c.args.core.number c.args.level
    c.self.invariant (rw (← c.self.view_is) at c.requires.core)
    (rw (← c.self.view_is) at c.requires.level) c.deref.result.now c.deref.ensures
    c.on_path-node.result c.on_path-node.ensures)

pub returns : goal.returns
returns c =
    rw (← c.self.view_is) (c.is_depth.ensures
    ∙ depth_here (the_view c.self.inside) c.args.core.number c.args.level c.self.invariant
    (rw (← c.self.view_is) at c.requires.core) (rw (← c.self.view_is) at c.requires.level)
    c.deref.result.now c.deref.ensures c.on_path-node.result c.on_path-node.ensures
    c.deref-2.result.now c.deref-3.result.now c.granted-granted.result c.low-asked.result
    c.are_all_away-away.result c.deref-2.ensures c.deref-3.ensures
    c.granted-granted.ensures.value c.low-asked.ensures
    (rw (← c.self.view_is) at c.are_all_away-away.ensures))
