-- The number is kept.
use Rattle.psci_tree.proofs.Words.{◌∙◌, ap, Kept, refl}
use Rattle.psci_tree.proofs.Gone.{off_is}
use Rattle.psci_tree.proofs.tree.Tree.off.Goals as goal

pub returns : goal.returns
returns c =
    c.from.ensures ∙ ap (λ (k : Kept). k.off) c.kept.ensures.counted
    ∙ off_is c.args.self.now c.args.node _ refl
