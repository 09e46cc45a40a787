-- The status of a core is in its row, and that of a domain by its counts.
use Rattle.psci_fw_state.proofs.Words.{◌<◌, ◌∙◌, ◌≤◌, ap, arith, cases_lt, CoreRow, counts_at}
use Rattle.psci_fw_state.proofs.Words.{height, inl, inr, map, nodes, row_at, status_counted}
use Rattle.psci_fw_state.proofs.AllCores.{status_domain, status_leaf, status_none}
use Rattle.psci_fw_state.proofs.state.State.node_status.Goals as goal

pub returns : goal.returns
returns c =
    let low : c.args.node.level ≤ height c.self.inside.board =
    elim (cases_lt (height c.self.inside.board) c.args.node.level) [
      | inl h ↦ absurd (omega (arith, c.nodes.ensures.above h, c.if-node-nodes.false))
      | inr h ↦ h
    ] in
    let inside : c.args.node.place < nodes c.self.inside.board c.args.node.level =
    omega (arith, c.nodes.ensures.there low, c.if-node-nodes.false) in
    c.status_below.ensures
    ∙ ap (λ counts.
    status_counted (counts_at (map (λ v. v.items) counts) c.args.node.level c.args.node.place))
    c.deref-2.ensures.value
    ∙ status_domain _ _ c.args.node c.self.view_is c.self.invariant
    (λ e. c.if-node-eq0.false e) low inside

pub returns-then-node-nodes : goal.returns-then-node-nodes
returns-then-node-nodes c =
    rw (← c.self.view_is)
    (status_none c.self.inside.board _ c.args.node
    (λ h k. omega (arith, c.nodes.ensures.there h, c.if-node-nodes.true)))

pub returns-then-node-eq0 : goal.returns-then-node-eq0
returns-then-node-eq0 c =
    ap (λ (r : CoreRow). r.status) (c.row_of.ensures
    ∙ ap (λ xs. row_at xs c.args.node.place) c.deref.ensures.value)
    ∙ status_leaf _ _ c.args.node c.self.view_is c.self.invariant c.if-node-eq0.true
