-- The path so far and the nodes from here up are the whole path.
use Rattle.psci_board.proofs.Terms.{◌++◌, ◌<◌, ◌≡◌, drop, IsTree, length, nodes_up, size_below}
use Rattle.psci_board.proofs.draft.path_of.Given as goal

abbrev pub invariant-loop-level : goal.invariant-loop-level
invariant-loop-level l =
    let above = drop l.level-index l.levels in
    record {
      path : l.path.items ++ nodes_up l.node.level above l.node.place ≡ nodes_up 0 l.levels l.place;
      level : l.node.level ≡ l.level-index;
      len : length l.path.items ≡ l.level-index;
      inside : l.node.place < size_below above;
      tree : IsTree above;
    }
