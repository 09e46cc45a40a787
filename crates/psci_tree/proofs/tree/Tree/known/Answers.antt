-- The number is kept.
use Rattle.psci_tree.proofs.Words.{◌∙◌, ap, Kept, refl}
use Rattle.psci_tree.proofs.Gone.{known_is}
use Rattle.psci_tree.proofs.tree.Tree.known.Goals as goal

pub returns : goal.returns
returns c =
    ap (λ (k : Kept). k.known) c.kept.ensures.counted
    ∙ known_is c.args.self.now c.args.node _ refl
