-- The cores so far have their words, and the rest of the words is that of the others.
use Rattle.std.proofs.Common.{◌≡◌, ◌+◌, ◌*◌, ◌++◌, flat_map, length, take, true}
use Rattle.psci_board.specs.Board.{size_below}
use Rattle.psci_tree.specs.Saved.{KeepsDepths, are_cores, core_words}
use Rattle.psci_tree.proofs.loading.load_cores.Given as goal

abbrev pub invariant-loop-number : goal.invariant-loop-number
invariant-loop-number l = record {
  done : flat_map core_words (take l.number l.tree.cores) ++ l.rest ≡ l.words;
  left : length l.rest + 2 * l.number ≡ 2 * size_below l.fn.tree.levels;
  good : are_cores l.rest ≡ true;
  rest : KeepsDepths l.fn.tree l.tree;
}
