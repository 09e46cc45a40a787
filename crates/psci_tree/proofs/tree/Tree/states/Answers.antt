-- The states of the cores below a node are a slice of those of all cores.
use Rattle.std.proofs.lemmas.Option.{cond_some}
use Rattle.psci_board.specs.declared.span.CoreSpan.{CoreSpan}
use Rattle.psci_tree.proofs.Words.{◌+◌, ◌-◌, ◌∙◌, ◌≡◌, ap, arith, drop, Node, span, SpanLaws}
use Rattle.psci_tree.proofs.Words.{sym, take, TreeValue, ℕ}
use Rattle.psci_tree.proofs.Seen.{held_seen, states_slice}
use Rattle.psci_tree.proofs.tree.Tree.states.Goals as goal

pub returns-in-Some : goal.returns-in-Some
returns-in-Some c =
    let t : TreeValue = c.args.self.now in
    let n : Node = c.args.node in
    let held = held_seen c.self.inside t c.self.invariant c.self.view_is in
    let laws : SpanLaws t.levels = c.law_spans.ensures t.levels held.tied.valid.tree in
    let first : ℕ = c.in-Some.span.first in
    let whole : first + c.in-Some.span.count - first ≡ c.in-Some.span.count = omega arith in
    let at : c.in-Some.span ≡ span t.levels n =
    sym (cond_some _ _ _ (sym c.cores_below.ensures ∙ c.in-Some.is)).1
    ∙ ap (λ (v : TreeValue). span v.levels n) c.self.view_is in
    ap (λ k. take k (drop first c.deref.result.now)) whole
    ∙ ap (λ cs. take c.in-Some.span.count (drop first cs))
    (c.deref.ensures.value ∙ ap (λ (v : TreeValue). v.cores) c.self.view_is)
    ∙ ap (λ (s : CoreSpan). take s.count (drop s.first t.cores)) at
    ∙ sym (states_slice t n laws held.tied.valid.cores c.requires)
