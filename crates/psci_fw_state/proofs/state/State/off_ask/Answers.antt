-- The claims of a core that goes off, seen in the tree, are those of its values.
use Rattle.psci_fw_state.proofs.Words.{◌∙◌, ◌≡◌, ap, own_claims, subst, view_of}
use Rattle.psci_messages.specs.Claim.{off_claims}
use Rattle.psci_messages.specs.View.{PowerView}
use Rattle.psci_fw_state.proofs.KeptCounts.{viewed}
use Rattle.psci_fw_state.proofs.state.State.off_ask.Goals as goal

pub returns : goal.returns
returns c =
    rw (← c.self.view_is)
    (subst (λ (w : PowerView). own_claims c.self.inside.board w c.args.core.number c.off_ask.result
    ≡ off_claims c.self.inside.board w c.args.core.number)
    (ap view_of c.deref.ensures ∙ viewed _ c.self.invariant)
    c.off_ask.ensures)
