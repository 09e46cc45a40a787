-- The cores, and the domains of the levels so far.
use Rattle.std.proofs.Common.{◌≡◌, ◌+◌, ◌*◌, ◌^◌, ◌≤◌, sum, take}
use Rattle.psci_board.specs.Board.{cores}
use Rattle.psci_ctl.specs.Saved.{level_sizes}
use Rattle.psci_ctl.proofs.checking.row_count.Given as goal

abbrev pub invariant-loop-level : goal.invariant-loop-level
invariant-loop-level l = record {
  count : l.count ≡ cores l.board + sum (take l.level (level_sizes l.board.levels));
  few : l.count ≤ 2 ^ 16 * (l.level + 1);
}
