-- What a core asks of itself is what it does.
use Rattle.std.proofs.Common.{◌∙◌}
use Rattle.psci_fw_state.specs.Seen.{StateValue}
use Rattle.psci_fw_state.specs.contracts.state.State.{the_view}
use Rattle.psci_fw_state.proofs.Sound.{own_asked}
use Rattle.psci_fw_state.proofs.state.State.own_ask.Goals as goal

pub returns : goal.returns
returns c =
    let s : StateValue = the_view c.self.inside in
    rw (← c.self.view_is) (c.own_ask.ensures
    ∙ own_asked s c.deref.result.now c.args.core.number c.activity_inside.result c.deref.ensures
    c.activity_inside.ensures)
