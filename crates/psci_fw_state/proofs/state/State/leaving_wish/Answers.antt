-- What is claimed of a core that goes off goes by the mode.
use Rattle.psci_fw_state.proofs.Words.{◌∙◌, ap, sym, values_in, view}
use Rattle.psci_fw_spec.specs.PowerCalls.{leaving_claims}
use Rattle.psci_fw_state.proofs.state.State.leaving_wish.Goals as goal

pub returns-in-Platform : goal.returns-in-Platform
returns-in-Platform c =
    ap (leaving_claims c.args.self.now.board
    (view c.args.self.now.board (values_in c.args.self.now))
    c.args.core.number) (sym c.in-Platform.is ∙ c.mode.ensures)

pub returns-in-OsInitiated : goal.returns-in-OsInitiated
returns-in-OsInitiated c =
    c.off_ask.ensures
    ∙ ap (leaving_claims c.args.self.now.board (view c.args.self.now.board
    (values_in c.args.self.now)) c.args.core.number) (sym c.in-OsInitiated.is ∙ c.mode.ensures)
