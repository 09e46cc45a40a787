-- The parts that a suspended core sends, or why it is refused.
use Rattle.psci_fw_state.proofs.Words.{◌∙◌, ap, BoardValue, Ok, rules, sym, values_in, view}
use Rattle.psci_fw_state.proofs.Words.{wished_claims}
use Rattle.psci_fw_spec.specs.PowerCalls.{suspend_parts}
use Rattle.psci_fw_state.proofs.KeptCounts.{suspend_refused, suspend_wished}
use Rattle.psci_fw_state.proofs.state.State.suspend.Goals as goal

pub returns-in-Ok-clause-parts : goal.returns-in-Ok-clause-parts
unfolding suspend_parts
returns-in-Ok-clause-parts c =
    suspend_wished c.args.self.now.board (values_in c.args.self.now) _ c.args.core.number c.args.ask
    c.args.opening c.in-Ok.wish (values_in c.args.self.now).mode c.set_suspended.ensures.after
    (sym c.in-Ok.is ∙ c.asked_wish.ensures)
    ∙ ap (λ (b : BoardValue). Ok (wished_claims b (view b (values_in c.set_suspended.new.self))
    c.args.core.number c.in-Ok.wish)) (sym c.set_suspended.ensures.board)

pub returns-in-Err-clause-parts : goal.returns-in-Err-clause-parts
unfolding suspend_parts
returns-in-Err-clause-parts c =
    suspend_refused c.args.self.now.board (values_in c.args.self.now) c.args.core.number c.args.ask
    c.in-Err.reason (values_in c.args.self.now).mode (sym c.in-Err.is ∙ c.asked_wish.ensures)

pub returns-in-Err-clause-refused : goal.returns-in-Err-clause-refused
returns-in-Err-clause-refused c = search rules
