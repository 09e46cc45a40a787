-- What is granted after each change, by the lemmas on granted depths.
use Rattle.psci_tree.proofs.Words.{arith}
use Rattle.psci_tree.specs.Changes.{suspended, turned_off, made_pending, started}
use Rattle.psci_tree.proofs.Granted.{grant_at}
use Rattle.psci_tree.proofs.Seen.{granted_with}
use Rattle.psci_tree.proofs.laws.law_granted.Goals as goal

pub returns : goal.returns
unfolding suspended turned_off made_pending started
returns c = record {
  suspended = grind (arith, grant_at, granted_with);
  off = grind (arith, grant_at, granted_with);
  pending = grind (arith, grant_at, granted_with);
  started = grind (arith, grant_at, granted_with);
  grant = grind (arith, grant_at, granted_with);
}
