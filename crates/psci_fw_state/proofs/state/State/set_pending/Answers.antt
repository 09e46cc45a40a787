-- A core is pending with its opening, and its Start is outstanding.
use Rattle.psci_fw_state.proofs.Words.{◌<◌, ◌≡◌, arith, cores, IsOfCores, length, MessageValue}
use Rattle.psci_fw_state.proofs.Words.{Put, slot_of, Some, StateValue, the_view}
use Rattle.psci_fw_state.proofs.Moved.{core_set, in_rows, path_cleared, path_unconfirmed}
use Rattle.psci_fw_state.proofs.Moved.{pending_of, row_set, rows_set, within}
use Rattle.psci_messages.specs.contracts.message.Message.{the_view as the_message}
use Rattle.psci_messages.specs.declared.kind.Kind.TheVariants as kinds
use Rattle.psci_fw_spec.specs.declared.status.Status.TheVariants as statuses
use Rattle.psci_fw_state.proofs.state.State.set_pending.Goals as goal

pub returns-clause-after : goal.returns-clause-after
returns-clause-after c =
    let s : StateValue = the_view c.self.inside in
    let m : MessageValue = the_message c.message.inside in
    let there : m.core.number < cores c.args.self.now.board =
    rw (← c.message.view_is) at c.requires.inside in
    let inside : m.core.number < length s.tree.cores =
    within _ _ _ c.self.view_is c.self.invariant there in
    let row_inside : m.core.number < length s.rows =
    in_rows _ _ _ c.self.view_is c.self.invariant there in
    let start : m.kind ≡ kinds.Start = rw (← c.message.view_is) at c.requires.start in
    let slot_inside : m.core.number < length s.slots.cores =
    omega (arith, c.self.invariant.rows, c.self.invariant.slots) in
    let has_slot : IsOfCores (length s.slots.cores) (slot_of m.kind m.core) =
    rw start slot_inside in
    let rows = rows_set c.self.inside.rows c.deref_mut-2.result.now c.put_row.new.rows
    m.core.number (record { status = statuses.Pending; opening = Some c.args.opening })
    c.deref_mut-2.ensures.value c.put_row.ensures.rows in
    rw (← c.self.view_is, ← c.message.view_is)
    (pending_of s.board s c.set_pending.new.self _ _ c.put.new.self m c.args.opening
    (core_set s.tree c.set_pending.new.self m.core.number _
    (λ k. rw (c.set_pending.ensures.value, c.deref_mut.ensures.value)
    (c.law_cores.ensures.pending s.tree m.core.number k inside)))
    (rw rows (row_set s.rows m.core.number _ row_inside))
    (path_cleared s c.set_pending.new.self m.core.number c.self.invariant
    (λ l p. rw (c.set_pending.ensures.value, c.deref_mut.ensures.value)
    (c.law_granted.ensures.pending s.tree m.core.number l p)))
    (path_unconfirmed s c.set_pending.new.self m.core.number c.self.invariant
    (λ l p. rw (c.set_pending.ensures.value, c.deref_mut.ensures.value)
    (c.law_confirmed.ensures.pending s.tree m.core.number l p)))
    (λ slot. rw (c.put.ensures.slots, ← c.message.view_is)
    (c.law_slots.ensures.changed s.slots (Put m) has_slot slot)))
