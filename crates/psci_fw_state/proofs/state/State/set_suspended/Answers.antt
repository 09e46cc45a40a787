-- A suspended core has its ask, and its opening where it powers down.
use Rattle.psci_fw_state.proofs.Words.{◌<◌, ◌∙◌, ◌≡◌, ap, length, length-set, None, refl, row_at}
use Rattle.psci_fw_state.proofs.Words.{Some, StateValue, sym, the_view, TreeValue}
use Rattle.psci_fw_state.proofs.Moved.{counts_stay, in_rows, row_set, rows_set}
use Rattle.psci_fw_state.proofs.Moved.{suspended_changed, updated_same, within}
use Rattle.psci_fw_state.proofs.state.State.set_suspended.Goals as goal

pub returns-then-deep-clause-after : goal.returns-then-deep-clause-after
returns-then-deep-clause-after c =
    let s : StateValue = the_view c.self.inside in
    let inside : c.args.core.number < length s.tree.cores =
    within _ _ _ c.self.view_is c.self.invariant c.requires.inside in
    let rows = rows_set c.self.inside.rows c.deref_mut-then-deep.result.now c.set_row.new.rows
    c.args.core.number (record {
      status = c.row_of.result.status;
      opening = Some c.args.opening;
    }) c.deref_mut-then-deep.ensures.value c.set_row.ensures in
    let row : c.row_of.result ≡ row_at s.rows c.args.core.number =
    rw c.deref.ensures.value at c.row_of.ensures in
    suspended_changed s _ c.set_ask.new.self _ c.args.core.number c.args.ask c.args.opening
    (Some c.args.opening) c.self.view_is c.requires.running
    (λ k. rw (c.set_ask.ensures.value, c.deref_mut.ensures.value)
    (c.law_cores.ensures.suspended s.tree c.args.core.number k c.args.ask inside))
    (rw (rows, row) (row_set s.rows c.args.core.number _
    (in_rows _ _ _ c.self.view_is c.self.invariant c.requires.inside)))
    (λ l p. rw (c.set_ask.ensures.value, c.deref_mut.ensures.value)
    (c.law_granted.ensures.suspended s.tree c.args.core.number l p c.args.ask))
    (λ l p. rw (c.set_ask.ensures.value, c.deref_mut.ensures.value)
    (c.law_confirmed.ensures.suspended s.tree c.args.core.number l p c.args.ask))
    (rw (sym c.deep.ensures ∙ c.if-deep.true) refl)

pub returns-else-deep-clause-after : goal.returns-else-deep-clause-after
returns-else-deep-clause-after c =
    let s : StateValue = the_view c.self.inside in
    let inside : c.args.core.number < length s.tree.cores =
    within _ _ _ c.self.view_is c.self.invariant c.requires.inside in
    suspended_changed s _ c.set_ask.new.self s.rows c.args.core.number c.args.ask c.args.opening
    None c.self.view_is c.requires.running
    (λ k. rw (c.set_ask.ensures.value, c.deref_mut.ensures.value)
    (c.law_cores.ensures.suspended s.tree c.args.core.number k c.args.ask inside))
    (λ k. sym (updated_same (row_at s.rows) c.args.core.number _ refl k))
    (λ l p. rw (c.set_ask.ensures.value, c.deref_mut.ensures.value)
    (c.law_granted.ensures.suspended s.tree c.args.core.number l p c.args.ask))
    (λ l p. rw (c.set_ask.ensures.value, c.deref_mut.ensures.value)
    (c.law_confirmed.ensures.suspended s.tree c.args.core.number l p c.args.ask))
    (rw (sym c.deep.ensures ∙ c.if-deep.false) refl)

pub invariant_of-self : goal.invariant_of-self
invariant_of-self c =
    let s : StateValue = the_view c.self.inside in
    let rows = rows_set c.self.inside.rows c.deref_mut-then-deep.result.now c.set_row.new.rows
    c.args.core.number (record {
      status = c.row_of.result.status;
      opening = Some c.args.opening;
    }) c.deref_mut-then-deep.ensures.value c.set_row.ensures in
    let row : c.row_of.result ≡ row_at s.rows c.args.core.number =
    rw c.deref.ensures.value at c.row_of.ensures in
    record {
      board = c.self.invariant.board;
      tree = c.set_ask.ensures.tree;
      levels = c.set_ask.ensures.levels
          ∙ ap (λ (t : TreeValue). t.levels) c.deref_mut.ensures.value
          ∙ c.self.invariant.levels;
      rows = ap length rows ∙ length-set s.rows c.args.core.number _ ∙ c.self.invariant.rows;
      counts = counts_stay s.board.levels s.rows _ c.args.core.number c.row_of.result
          (Some c.args.opening) s.counts
          (in_rows _ _ _ c.self.view_is c.self.invariant c.requires.inside) row rows
          c.self.invariant.counts;
      slots = c.self.invariant.slots;
    }
