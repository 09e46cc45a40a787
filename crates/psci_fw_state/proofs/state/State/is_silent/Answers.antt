-- A message waits, or none does.
use Rattle.std.proofs.Common.{ap, not, Option}
use Rattle.std.specs.Prelude.{is_some}
use Rattle.psci_messages.specs.Message.{MessageValue}
use Rattle.psci_fw_state.proofs.state.State.is_silent.Goals as goal

pub returns-in-Some : goal.returns-in-Some
returns-in-Some c =
    ap (λ (o : Option MessageValue). not (is_some o)) (rw (c.in-Some.is) at c.outstanding.ensures)

pub returns-in-None : goal.returns-in-None
returns-in-None c =
    ap (λ (o : Option MessageValue). not (is_some o)) (rw (c.in-None.is) at c.outstanding.ensures)
