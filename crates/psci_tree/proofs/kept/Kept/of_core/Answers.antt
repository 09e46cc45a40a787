-- A core alone is counted at the depth that it asks.
use Rattle.psci_tree.proofs.Words.{◌∙◌, ◌∷◌, [], ap, arith, rules, set}
use Rattle.psci_tree.proofs.Ranges.{one_asks}
use Rattle.psci_tree.proofs.kept.Kept.of_core.Goals as goal

pub returns : goal.returns
returns c =
    let asking = ap (λ depth. set (0 ∷ 0 ∷ 0 ∷ 0 ∷ []) depth 1) c.ask.ensures.value
    ∙ one_asks _ (omega (arith, c.ask.ensures.value, c.ask.ensures.least)) in
    record {
      counted = rw asking (search rules);
      small = search rules;
    }
