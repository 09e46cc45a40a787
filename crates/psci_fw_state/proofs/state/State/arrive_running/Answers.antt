-- A core that arrives and goes on runs, and its slots are clear.
use Rattle.psci_fw_state.proofs.Words.{◌<◌, Clear, length, None, StateValue, the_view}
use Rattle.psci_fw_state.proofs.Moved.{in_rows, path_cleared, path_unconfirmed, row_set}
use Rattle.psci_fw_state.proofs.Moved.{rows_set, running_changed, within}
use Rattle.psci_fw_spec.specs.declared.status.Status.TheVariants as statuses
use Rattle.psci_fw_state.proofs.state.State.arrive_running.Goals as goal

pub returns-clause-after : goal.returns-clause-after
returns-clause-after c =
    let s : StateValue = the_view c.self.inside in
    let inside : c.args.core.number < length s.tree.cores =
    within _ _ _ c.self.view_is c.self.invariant c.requires.inside in
    let rows = rows_set c.self.inside.rows c.deref_mut-2.result.now c.put_row.new.rows
    c.args.core.number (record { status = statuses.On; opening = None })
    c.deref_mut-2.ensures.value c.put_row.ensures.rows in
    running_changed s _ c.set_start.new.self _ _ c.clear.new.self
    c.args.core.number c.args.start c.self.view_is c.requires.life
    (λ k. rw (c.set_start.ensures.value, c.deref_mut.ensures.value)
    (c.law_cores.ensures.started s.tree c.args.core.number k c.args.start.number inside))
    (rw rows (row_set s.rows c.args.core.number _
    (in_rows _ _ _ c.self.view_is c.self.invariant c.requires.inside)))
    (path_cleared s c.set_start.new.self c.args.core.number c.self.invariant
    (λ l p. rw (c.set_start.ensures.value, c.deref_mut.ensures.value)
    (c.law_granted.ensures.started s.tree c.args.core.number c.args.start.number l p)))
    (path_unconfirmed s c.set_start.new.self c.args.core.number c.self.invariant
    (λ l p. rw (c.set_start.ensures.value, c.deref_mut.ensures.value)
    (c.law_confirmed.ensures.started s.tree c.args.core.number c.args.start.number l p)))
    (λ slot. rw c.clear.ensures.slots
    (c.law_slots.ensures.changed s.slots (Clear c.args.core) tt slot))
