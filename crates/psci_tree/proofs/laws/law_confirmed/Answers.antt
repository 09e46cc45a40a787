-- What is confirmed after each change, by the lemmas on confirmed depths.
use Rattle.psci_tree.proofs.Words.{arith}
use Rattle.psci_tree.specs.Changes.{suspended, turned_off, made_pending, started, with_confirmed}
use Rattle.psci_tree.proofs.Seen.{confirmed_laws}
use Rattle.psci_tree.proofs.laws.law_confirmed.Goals as goal

pub returns : goal.returns
unfolding suspended turned_off made_pending started with_confirmed
returns c = record {
  suspended = grind (arith, confirmed_laws);
  off = grind (arith, confirmed_laws);
  pending = grind (arith, confirmed_laws);
  started = grind (arith, confirmed_laws);
  grant = grind (arith, confirmed_laws);
  confirmed = grind (arith, confirmed_laws);
  granted = grind (arith, confirmed_laws);
  cores = grind (arith, confirmed_laws);
}
