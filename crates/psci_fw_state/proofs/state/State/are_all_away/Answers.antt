-- All are away where as many are as there are cores below.
use Rattle.std.proofs.Common.{ap, ◌∙◌}
use Rattle.psci_fw_state.specs.Seen.{StateValue}
use Rattle.psci_fw_state.specs.contracts.state.State.{the_view}
use Rattle.psci_board.specs.declared.span.CoreSpan.{CoreSpan}
use Rattle.psci_fw_state.proofs.SavedWords.{all_away, has_span, span_of}
use Rattle.psci_fw_state.proofs.state.State.are_all_away.Goals as goal

pub returns-in-Some : goal.returns-in-Some
returns-in-Some c =
    let s : StateValue = the_view c.self.inside in
    rw (← c.self.view_is)
    (all_away s c.args.node c.off.result c.from.result c.self.invariant
    (c.law_spans.ensures s.board.levels c.self.invariant.board.tree)
    (rw (← c.self.view_is) at c.requires) (rw c.deref.ensures at c.off.ensures)
    (c.from.ensures ∙ ap (λ (x : CoreSpan). x.count)
    (span_of s.board c.args.node c.in-Some.span (rw (c.in-Some.is) at c.cores_below.ensures))))

pub returns-in-None : goal.returns-in-None
returns-in-None c =
    absurd (has_span c.self.inside.board c.args.node (rw (← c.self.view_is) at c.requires)
    (rw (c.in-None.is) at c.cores_below.ensures))
