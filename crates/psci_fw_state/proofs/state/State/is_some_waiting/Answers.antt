-- A core waits where one is pending, or one is neither off nor active.
use Rattle.psci_fw_state.proofs.Words.{◌∙◌, arith, StateValue, the_view}
use Rattle.psci_fw_state.specs.Seen.{values_in}
use Rattle.psci_fw_state.proofs.AllCores.{fits_settled, none_pending, some_pending}
use Rattle.psci_fw_state.proofs.state.State.is_some_waiting.Goals as goal

pub overflow_add-settled : goal.overflow_add-settled
overflow_add-settled c =
    let s : StateValue = the_view c.self.inside in
    let laws = c.law_spans.ensures s.board.levels c.self.invariant.board.tree in
    let node = rw (← c.self.view_is) at c.system-system.ensures in
    let fits = fits_settled s c.self.invariant laws c.off.result c.active.result
    (rw (c.deref.ensures, node) at c.off.ensures)
    (rw (c.deref-2.ensures, node) at c.active.ensures) in
    omega (arith, fits)

pub returns-then-counted-gt0 : goal.returns-then-counted-gt0
unfolding values_in
returns-then-counted-gt0 c =
    let s : StateValue = the_view c.self.inside in
    let laws = c.law_spans.ensures s.board.levels c.self.invariant.board.tree in
    let node = rw (← c.self.view_is) at c.system-system.ensures in
    rw (← c.self.view_is)
    (some_pending s c.self.invariant laws (λ k. rw (← c.self.view_is) at (c.requires.agree k))
    c.off.result c.active.result c.counted.result (rw (← c.self.view_is) at c.counted.ensures)
    (rw (c.deref.ensures, node) at c.off.ensures)
    (rw (c.deref-2.ensures, node) at c.active.ensures)
    c.if-counted-gt0.true)

pub returns-else-counted-gt0 : goal.returns-else-counted-gt0
unfolding values_in
returns-else-counted-gt0 c =
    let s : StateValue = the_view c.self.inside in
    let laws = c.law_spans.ensures s.board.levels c.self.invariant.board.tree in
    let node = rw (← c.self.view_is) at c.system-system.ensures in
    rw (← c.self.view_is)
    (none_pending s c.self.invariant laws (λ k. rw (← c.self.view_is) at (c.requires.agree k))
    c.off.result c.active.result c.counted.result (rw (← c.self.view_is) at c.counted.ensures)
    (rw (c.deref.ensures, node) at c.off.ensures)
    (rw (c.deref-2.ensures, node) at c.active.ensures)
    c.from.result (c.from.ensures ∙ c.cores.ensures.cores) c.if-counted-gt0.false)
