-- The granted depth stands in the rows.
use Rattle.psci_tree.proofs.Seen.{depths_seen}
use Rattle.psci_tree.proofs.tree.Tree.granted.Goals as goal

pub returns-clause-value : goal.returns-clause-value
returns-clause-value c =
    (depths_seen c.self.inside _ _ c.self.invariant c.self.view_is c.requires
    c.deref.ensures.value c.depths_at.ensures).granted
