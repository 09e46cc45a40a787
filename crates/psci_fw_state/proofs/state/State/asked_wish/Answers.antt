-- What is asked goes by the mode, and may be refused in OS-initiated mode.
use Rattle.psci_fw_state.proofs.Words.{◌∙◌, ap, asked_wish, sym, values_in, view, wish_unless}
use Rattle.psci_fw_state.proofs.state.State.asked_wish.Goals as goal

pub returns-in-Platform : goal.returns-in-Platform
returns-in-Platform c =
    ap (asked_wish c.args.self.now.board (view c.args.self.now.board (values_in c.args.self.now))
    c.args.core.number c.args.ask) (sym c.in-Platform.is ∙ c.mode.ensures)

pub returns-in-None : goal.returns-in-None
returns-in-None c =
    ap (λ r. wish_unless r c.args.ask) (c.in-None.ensures {u = tt})
    ∙ ap (asked_wish c.args.self.now.board (view c.args.self.now.board
    (values_in c.args.self.now)) c.args.core.number c.args.ask)
    (sym c.in-OsInitiated.is ∙ c.mode.ensures)

pub returns-in-Some : goal.returns-in-Some
returns-in-Some c =
    ap (λ r. wish_unless r c.args.ask) (c.in-Some.ensures {u = tt})
    ∙ ap (asked_wish c.args.self.now.board (view c.args.self.now.board
    (values_in c.args.self.now)) c.args.core.number c.args.ask)
    (sym c.in-OsInitiated.is ∙ c.mode.ensures)
