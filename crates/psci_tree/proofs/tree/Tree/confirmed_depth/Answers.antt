-- The confirmed depth stands in the rows.
use Rattle.psci_tree.proofs.Seen.{depths_seen}
use Rattle.psci_tree.proofs.tree.Tree.confirmed_depth.Goals as goal

pub returns : goal.returns
returns c =
    (depths_seen c.self.inside _ _ c.self.invariant c.self.view_is c.requires
    c.deref.ensures.value c.depths_at.ensures).confirmed
