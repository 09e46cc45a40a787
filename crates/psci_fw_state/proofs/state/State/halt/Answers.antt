-- The life is halting, and the message is outstanding.
use Rattle.psci_fw_state.proofs.Words.{◌∙◌, ◌≡◌, ap, changed, cores, IsOfCores, length, message_in}
use Rattle.psci_fw_state.proofs.Words.{MessageValue, Put, Slot, slot_of, SlotsValue, StateValue}
use Rattle.psci_fw_state.proofs.Words.{subst, sym, the_view, ℕ}
use Rattle.psci_fw_spec.specs.Changes.{with_halt}
use Rattle.psci_fw_state.specs.Seen.{values_in}
use Rattle.psci_fw_state.proofs.state.State.halt.Goals as goal

pub returns-clause-after : goal.returns-clause-after
unfolding values_in
returns-clause-after c =
    let s : StateValue = the_view c.self.inside in
    let m : MessageValue = c.args.message in
    let own : IsOfCores (cores s.board) (slot_of m.kind m.core) =
    subst (λ (t : StateValue). IsOfCores (cores t.board) (slot_of m.kind m.core))
    (sym c.self.view_is) c.requires.slot in
    let has : IsOfCores (length s.slots.cores) (slot_of m.kind m.core) =
    subst (λ (n : ℕ). IsOfCores n (slot_of m.kind m.core)) (sym c.self.invariant.slots) own in
    let sent : (slot : Slot) → message_in c.put.new.self slot
    ≡ changed slot (Put m) (message_in s.slots slot) = λ slot.
    ap (λ (x : SlotsValue). message_in x slot) c.put.ensures.slots
    ∙ c.law_slots.ensures.changed s.slots (Put m) has slot in
    (λ i. record (with_halt m (values_in s)) { outstanding = λ slot. sent slot i })
    ∙ ap (λ (t : StateValue). with_halt m (values_in t)) c.self.view_is
