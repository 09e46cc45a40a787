-- One core more, and what it asks.
use Rattle.psci_tree.proofs.Words.{◌++◌, ◌∷◌, [], ap, arith, CoreState, List, low_in, take}
use Rattle.psci_tree.proofs.Words.{take_more, ℕ}
use Rattle.psci_tree.proofs.Ranges.{low-push}
use Rattle.psci_tree.proofs.core_change.least_of.Goals as goal

pub loop-core-preserved : goal.loop-core-preserved
loop-core-preserved c =
    let cores : List CoreState = c.args.cores.now in
    let i : ℕ = c.loop-core.core-index in
    let s : CoreState = c.core-item.result in
    omega (
      arith,
      c.min-low.ensures,
      c.ask.ensures.value,
      c.loop-core.invariant,
      low-push c.args.level (take i cores) s,
      ap (λ (x : CoreState). low_in c.args.level (take i cores ++ x ∷ [])) c.core-item.is,
      ap (low_in c.args.level) (take_more cores i s c.loop-core-test.true),
    )
