-- A core that is not pending is away from then on.
use Rattle.psci_fw_state.proofs.Words.{◌<◌, ◌∙◌, length, sym}
use Rattle.psci_fw_state.proofs.Moved.{away_changed, within}
use Rattle.psci_fw_state.proofs.state.State.set_away.Goals as goal

pub returns-then-not-is_pending-clause-after : goal.returns-then-not-is_pending-clause-after
returns-then-not-is_pending-clause-after c =
    let inside : c.args.core.number < length c.self.inside.tree.value.cores =
    within _ _ _ c.self.view_is c.self.invariant c.requires.inside in
    away_changed _ _ c.set_off.new.self c.args.core.number c.self.view_is
    (sym c.is_pending.ensures ∙ c.if-not-is_pending.true)
    (λ k. rw (c.set_off.ensures.value, c.deref_mut.ensures.value)
    (c.law_cores.ensures.off _ _ k inside))
    (λ l p. rw (c.set_off.ensures.value, c.deref_mut.ensures.value)
    (c.law_granted.ensures.off _ _ l p))
    (λ l p. rw (c.set_off.ensures.value, c.deref_mut.ensures.value)
    (c.law_confirmed.ensures.off _ _ l p))
