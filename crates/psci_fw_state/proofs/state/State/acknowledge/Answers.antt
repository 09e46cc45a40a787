-- What an acknowledgement that is used leaves, whether it turns its core off or not.
use Rattle.std.specs.Prelude.{Some}
use Rattle.psci_fw_state.proofs.Words.{◌<◌, ◌∙◌, ◌≡◌, Acknowledge, AckValue, answered, arith}
use Rattle.psci_fw_state.proofs.Words.{false, length, message_in, refl, row_at, slot_of}
use Rattle.psci_fw_state.proofs.Words.{StateValue, subst, sym, taken, the_view, true, turns_off}
use Rattle.psci_fw_state.proofs.Words.{Used, values_in}
use Rattle.psci_fw_state.proofs.Confirming.{acked_by, acked_changed, answered_used}
use Rattle.psci_fw_state.proofs.Confirming.{down_has_slot, IsAcked, sent_parts}
use Rattle.psci_fw_state.proofs.Moved.{row_set, rows_set, updated_same}
use Rattle.psci_fw_state.proofs.state.State.acknowledge.Goals.{After-confirm_parts}
use Rattle.psci_messages.specs.contracts.ack.Ack.{the_view as the_ack}
use Rattle.psci_fw_spec.specs.declared.status.Status.TheVariants as statuses
use Rattle.psci_fw_state.proofs.state.State.acknowledge.Goals as goal

-- the message that is acknowledged
sent : (c : After-confirm_parts) → Some c.in-Some.message.now ≡ answered c.args.ack
    (message_in c.self.inside.slots (slot_of c.args.ack.kind c.args.ack.core))
sent c = rw c.in-Some.is at c.answered.ensures

acked : (c : After-confirm_parts)
    → IsAcked (the_view c.self.inside) c.confirm_parts.new.tree (the_ack c.ack.inside)
acked c =
    let s : StateValue = the_view c.self.inside in
    acked_by s c.confirm_parts.new.tree _ c.applied_of.result.now
    (sent_parts s.slots _ _ _ _ c.ack.view_is (sent c) c.applied_of.ensures)
    (λ k. rw (← c.deref_mut.ensures.value) (c.confirm_parts.ensures.kept.cores k))
    (λ l p. rw (← c.deref_mut.ensures.value) (c.confirm_parts.ensures.kept.granted l p))
    (λ l p. rw (← c.deref_mut.ensures.value) (c.confirm_parts.ensures.confirmed l p))

pub returns-then-is_off-clause-used : goal.returns-then-is_off-clause-used
returns-then-is_off-clause-used c = λ used.
    let at = (goal.at.returns-then-is_off-clause-used c).After-confirm_parts in
    let s : StateValue = the_view c.self.inside in
    let a : AckValue = the_ack c.ack.inside in
    let off : turns_off (values_in c.args.self.now) a ≡ true =
    rw (← c.ack.view_is) at (sym c.turns_off-is_off.ensures ∙ c.if-is_off.true) in
    let used_up : taken a (message_in s.slots (slot_of a.kind a.core)) ≡ Used =
    subst (λ (x : AckValue). taken x (message_in s.slots (slot_of x.kind x.core)) ≡ Used)
    (sym c.ack.view_is) (answered_used c.args.ack _ _ (sent at)).1 in
    let inside : a.core.number < length s.slots.cores =
    down_has_slot a s.slots (values_in c.args.self.now) off used_up in
    let row_inside : a.core.number < length s.rows =
    omega (arith, c.self.invariant.rows, c.self.invariant.slots) in
    let rows = rows_set c.self.inside.rows c.deref_mut-then-is_off.result.now c.put_status.new.rows
    a.core.number
    (record (row_at c.deref_mut-then-is_off.result.now a.core.number) { status = statuses.Off })
    c.deref_mut-then-is_off.ensures.value c.put_status.ensures.rows in
    rw (← c.ack.view_is)
    (acked_changed s _ c.confirm_parts.new.tree _ _ c.finish.new.self a true c.self.view_is off
    (acked at)
    (rw (rows, c.deref_mut-then-is_off.ensures.value) (row_set s.rows a.core.number _ row_inside))
    (λ slot. rw (c.finish.ensures.slots, ← c.ack.view_is)
    (c.law_slots.ensures.changed s.slots (Acknowledge a) tt slot)))

pub returns-else-is_off-clause-used : goal.returns-else-is_off-clause-used
returns-else-is_off-clause-used c = λ used.
    let s : StateValue = the_view c.self.inside in
    let a : AckValue = the_ack c.ack.inside in
    let off : turns_off (values_in c.args.self.now) a ≡ false =
    rw (← c.ack.view_is) at (sym c.turns_off-is_off.ensures ∙ c.if-is_off.false) in
    rw (← c.ack.view_is)
    (acked_changed s _ c.confirm_parts.new.tree s.rows s.counts c.finish.new.self a false
    c.self.view_is off (acked (goal.at.returns-else-is_off-clause-used c).After-confirm_parts)
    (λ k. sym (updated_same (row_at s.rows) a.core.number _ refl k))
    (λ slot. rw (c.finish.ensures.slots, ← c.ack.view_is)
    (c.law_slots.ensures.changed s.slots (Acknowledge a) tt slot)))
