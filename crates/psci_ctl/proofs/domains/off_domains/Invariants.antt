-- Each level so far has a row of its domains.
use Rattle.std.proofs.Common.{◌≡◌, ℕ, ◌<◌, [], get_or, length}
use Rattle.psci_board.specs.Board.{nodes}
use Rattle.psci_ctl.proofs.domains.off_domains.Given as goal

abbrev pub invariant-loop-level : goal.invariant-loop-level
invariant-loop-level l = record {
  levels : length l.levels.items ≡ l.level;
  places : (k : ℕ) → k < l.level → length (get_or l.levels.items k []) ≡ nodes l.board k;
}
