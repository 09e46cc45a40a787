-- A domain is as a life begins where its depths are.
use Rattle.std.proofs.Common.{◌∙◌}
use Rattle.psci_fw_state.specs.Seen.{StateValue}
use Rattle.psci_fw_state.specs.contracts.state.State.{the_view}
use Rattle.psci_fw_state.proofs.Begun.{some_below}
use Rattle.psci_fw_state.proofs.New.{depths_by}
use Rattle.psci_fw_state.proofs.state.State.is_first_domain.Goals as goal

pub on_path-own-requires-clause-core : goal.on_path-own-requires-clause-core
on_path-own-requires-clause-core c =
    rw c.deref.ensures (some_below c.self.inside.tree.value.levels c.self.invariant.tree.tree)

pub returns : goal.returns
returns c =
    let s : StateValue = the_view c.self.inside in
    rw (← c.self.view_is) (c.are_first_depths.ensures
    ∙ depths_by s c.deref.result.now c.deref-2.result.now c.deref-3.result.now
    c.on_path-own.result c.args.node c.granted-granted.result c.confirmed-confirmed.result
    c.self.invariant c.deref.ensures c.deref-2.ensures c.deref-3.ensures c.on_path-own.ensures
    c.granted-granted.ensures.value c.confirmed-confirmed.ensures)
