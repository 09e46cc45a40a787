-- The reason to refuse, seen in the tree, is that of the values.
use Rattle.psci_fw_state.proofs.Words.{◌∙◌, ap, refusal, shallow, view_of}
use Rattle.psci_fw_state.proofs.KeptCounts.{viewed}
use Rattle.psci_fw_state.proofs.state.State.refusal.Goals as goal

pub returns : goal.returns
returns c =
    rw (← c.self.view_is)
    (c.path_refusal.ensures ∙ ap (λ w. refusal c.self.inside.board w (shallow c.self.inside.board w
    c.args.core.number c.args.ask)) (ap view_of c.deref.ensures ∙ viewed _ c.self.invariant))
