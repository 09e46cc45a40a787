-- A slot that is written has a name of the list.
use Rattle.std.proofs.lemmas.List.{get_or_default}
use Rattle.psci_platform.proofs.Words.{AreAmong, List, Name, subst, sym}
use Rattle.psci_platform.proofs.Swaps.{one_put}
use Rattle.psci_platform.proofs.names.put_names.Goals as goal

pub loop-name-preserved : goal.loop-name-preserved
loop-name-preserved c =
    let names = c.args.names.now in
    subst (λ (xs : List Name). AreAmong names xs) (sym c.put.ensures)
    (one_put names c.loop-name.slots c.slot_of.result c.loop-name.name-index
    c.loop-name.invariant c.loop-name-test.true _
    (get_or_default names c.loop-name.name-index _ _ c.loop-name-test.true))
