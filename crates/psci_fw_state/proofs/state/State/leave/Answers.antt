-- A core that goes off is away.
use Rattle.psci_fw_state.proofs.Words.{◌<◌, ap, is_pending_phase, length}
use Rattle.psci_fw_state.proofs.Moved.{away_changed, within}
use Rattle.psci_fw_state.proofs.state.State.leave.Goals as goal

pub returns-clause-after : goal.returns-clause-after
returns-clause-after c =
    let inside : c.args.core.number < length c.self.inside.tree.value.cores =
    within _ _ _ c.self.view_is c.self.invariant c.requires.inside in
    away_changed _ _ c.set_off.new.self c.args.core.number c.self.view_is
    (ap is_pending_phase c.requires.running)
    (λ k. rw (c.set_off.ensures.value, c.deref_mut.ensures.value)
    (c.law_cores.ensures.off _ _ k inside))
    (λ l p. rw (c.set_off.ensures.value, c.deref_mut.ensures.value)
    (c.law_granted.ensures.off _ _ l p))
    (λ l p. rw (c.set_off.ensures.value, c.deref_mut.ensures.value)
    (c.law_confirmed.ensures.off _ _ l p))
