-- The number is kept.
use Rattle.psci_tree.proofs.Words.{◌∙◌, ap, Kept, refl}
use Rattle.psci_tree.proofs.Gone.{active_is}
use Rattle.psci_tree.proofs.tree.Tree.active.Goals as goal

pub returns : goal.returns
returns c =
    c.from.ensures ∙ ap (λ (k : Kept). k.active) c.kept.ensures.counted
    ∙ active_is c.args.self.now c.args.node _ refl
