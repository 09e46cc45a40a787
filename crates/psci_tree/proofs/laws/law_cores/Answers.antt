-- What is kept of cores after each change, by the lemma on one core's state.
use Rattle.psci_tree.proofs.Words.{arith}
use Rattle.psci_tree.specs.Changes.{suspended, turned_off, made_pending, started, with_grant}
use Rattle.psci_tree.proofs.Seen.{core_with}
use Rattle.psci_tree.proofs.laws.law_cores.Goals as goal

pub returns : goal.returns
unfolding suspended turned_off made_pending started with_grant
returns c = record {
  suspended = grind (arith, core_with);
  off = grind (arith, core_with);
  pending = grind (arith, core_with);
  started = grind (arith, core_with);
  grant = grind (arith, core_with);
}
