-- The domains of the levels so far are counted.
use Rattle.std.proofs.Common.{◌≡◌, ◌*◌, ◌^◌, ◌≤◌, sum, take}
use Rattle.psci_tree.specs.Recount.{level_sizes}
use Rattle.psci_tree.proofs.saved.count_below.Given as goal

abbrev pub invariant-loop-level : goal.invariant-loop-level
invariant-loop-level l = record {
  count : l.count ≡ sum (take l.level (level_sizes l.board.levels));
  few : l.count ≤ 2 ^ 16 * l.level;
}
