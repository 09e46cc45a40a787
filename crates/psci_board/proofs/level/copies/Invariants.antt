-- The levels so far are copied.
use Rattle.psci_board.proofs.Terms.{◌≡◌, take}
use Rattle.psci_board.proofs.level.copies.Given as goal

abbrev pub invariant-loop-level : goal.invariant-loop-level
invariant-loop-level l = l.copies.items ≡ take l.level-index l.levels
