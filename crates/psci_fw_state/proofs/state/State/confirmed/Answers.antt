-- Nothing is confirmed of a domain that the board does not have.
use Rattle.psci_fw_state.proofs.Words.{arith}
use Rattle.psci_fw_state.proofs.Begun.{confirmed_shown}
use Rattle.psci_fw_state.proofs.state.State.confirmed.Goals as goal

pub returns-else-node-nodes : goal.returns-else-node-nodes
returns-else-node-nodes c =
    confirmed_shown _ _ c.args.node.level c.args.node.place c.self.view_is c.self.invariant
    (λ h k. omega (arith, c.nodes.ensures.there h, c.if-node-nodes.false))
