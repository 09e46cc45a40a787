-- A core that arrives and stops is away, unless it is pending, and its slots are clear.
use Rattle.psci_fw_state.proofs.Words.{◌∙◌, ◌≡◌, ap, Clear, length, length-set, None, row_at}
use Rattle.psci_fw_state.proofs.Words.{StateValue, the_view, TreeValue}
use Rattle.psci_fw_state.proofs.Moved.{counts_stay, in_rows, path_cleared, path_unconfirmed}
use Rattle.psci_fw_state.proofs.Moved.{row_set, rows_set, stopped_changed}
use Rattle.psci_fw_state.proofs.state.State.arrive_away.Goals as goal

pub returns-clause-after : goal.returns-clause-after
returns-clause-after c =
    let s : StateValue = the_view c.self.inside in
    let rows = rows_set c.self.inside.rows c.deref_mut-2.result.now c.set_row.new.rows
    c.args.core.number (record {
      status = c.row_of.result.status;
      opening = None;
    }) c.deref_mut-2.ensures.value c.set_row.ensures in
    let row : c.row_of.result ≡ row_at s.rows c.args.core.number =
    rw c.deref.ensures.value at c.row_of.ensures in
    stopped_changed s _ c.stop.new.tree _ c.clear.new.self
    c.args.core.number c.args.start c.is_pending-pending.result c.self.view_is c.requires.life
    c.is_pending-pending.ensures
    (λ k. rw (← c.deref_mut.ensures.value) (c.stop.ensures.cores k))
    (rw (rows, row) (row_set s.rows c.args.core.number _
    (in_rows _ _ _ c.self.view_is c.self.invariant c.requires.inside)))
    (path_cleared s c.stop.new.tree c.args.core.number c.self.invariant
    (λ l p. rw (← c.deref_mut.ensures.value) (c.stop.ensures.path.granted l p)))
    (path_unconfirmed s c.stop.new.tree c.args.core.number c.self.invariant
    (λ l p. rw (← c.deref_mut.ensures.value) (c.stop.ensures.path.confirmed l p)))
    (λ slot. rw c.clear.ensures.slots
    (c.law_slots.ensures.changed s.slots (Clear c.args.core) tt slot))

pub invariant_of-self : goal.invariant_of-self
invariant_of-self c =
    let s : StateValue = the_view c.self.inside in
    let rows = rows_set c.self.inside.rows c.deref_mut-2.result.now c.set_row.new.rows
    c.args.core.number (record {
      status = c.row_of.result.status;
      opening = None;
    }) c.deref_mut-2.ensures.value c.set_row.ensures in
    let row : c.row_of.result ≡ row_at s.rows c.args.core.number =
    rw c.deref.ensures.value at c.row_of.ensures in
    record {
      board = c.self.invariant.board;
      tree = c.stop.ensures.path.tree;
      levels = c.stop.ensures.path.levels
          ∙ ap (λ (t : TreeValue). t.levels) c.deref_mut.ensures.value
          ∙ c.self.invariant.levels;
      rows = ap length rows ∙ length-set s.rows c.args.core.number _ ∙ c.self.invariant.rows;
      counts = counts_stay s.board.levels s.rows _ c.args.core.number c.row_of.result None
          s.counts (in_rows _ _ _ c.self.view_is c.self.invariant c.requires.inside) row rows
          c.self.invariant.counts;
      slots = c.clear.ensures.cores ∙ c.self.invariant.slots;
    }
