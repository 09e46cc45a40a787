-- The words are those of cores where the rest of them is.
use Rattle.std.proofs.Common.{◌≡◌, ◌+◌, ◌≤◌, length}
use Rattle.psci_tree.specs.Saved.{are_cores}
use Rattle.psci_tree.proofs.tree_words.are_cores.Given as goal

abbrev pub invariant-loop : goal.invariant-loop
invariant-loop l = record {
  same : are_cores l.rest ≡ are_cores l.words;
  left : length l.rest + l.counter ≤ length l.words;
}
