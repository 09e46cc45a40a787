-- What the parts so far confirm, and no more.
use Rattle.psci_fw_state.proofs.Confirming.{IsConfirmed}
use Rattle.psci_fw_state.proofs.confirm.confirm_parts.Given as goal

abbrev pub invariant-loop-level : goal.invariant-loop-level
invariant-loop-level l = IsConfirmed l.board l.fn.core.number l.parts l.initial.tree l.tree l.level
