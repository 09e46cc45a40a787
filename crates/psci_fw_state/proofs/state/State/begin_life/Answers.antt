-- All values are those of the start of a life.
use Rattle.psci_fw_state.proofs.Words.{◌<◌, ◌∙◌, ◌≡◌, ap, length, size_below, StateValue, sym}
use Rattle.psci_fw_state.proofs.Words.{the_view, TreeValue, with_items_is}
use Rattle.psci_messages.specs.Slots.Change.{ClearAll}
use Rattle.psci_fw_state.proofs.Begun.{at_start, begun, some_below}
use Rattle.psci_fw_state.proofs.state.State.begin_life.Goals as goal

pub returns-clause-after : goal.returns-clause-after
returns-clause-after c =
    let s : StateValue = the_view c.self.inside in
    let levels : s.tree.levels ≡ s.board.levels = c.self.invariant.levels in
    let some : 0 < size_below s.tree.levels = some_below s.tree.levels c.self.invariant.tree.tree in
    let long : length c.reset_rows.new.rows ≡ c.self.inside.rows.len =
    c.reset_rows.auto.rows ∙ ap length c.deref_mut-2.ensures.value ∙ sym c.self.inside.rows.ok.0 in
    let rows = with_items_is c.self.inside.rows c.reset_rows.new.rows long in
    begun s _ c.args.life _ c.self.view_is c.if-life-self.false
    (rw rows (at_start s.board _ c.args.life c.reset_life.new.self c.reset_rows.new.rows
    _ c.clear_all.new.self c.self.invariant.board c.reset_life.ensures.tree
    (c.reset_life.ensures.levels ∙ ap (λ (t : TreeValue). t.levels) c.deref_mut.ensures.value
    ∙ levels)
    (λ k. rw (c.reset_life.ensures.value, c.deref_mut.ensures.value)
    (c.law_start_of_life.ensures.cores s.tree.levels k some))
    (λ l p h i. rw (c.reset_life.ensures.value, c.deref_mut.ensures.value, levels)
    (c.law_start_of_life.ensures.granted s.board.levels l p h i))
    (λ l p h i. rw (c.reset_life.ensures.value, c.deref_mut.ensures.value, levels)
    (c.law_start_of_life.ensures.confirmed s.board.levels l p h i))
    c.reset_rows.ensures
    (λ slot. rw c.clear_all.ensures.slots (c.law_slots.ensures.changed s.slots ClearAll tt slot))))
