-- The fields from this level up name the place so far.
use Rattle.psci_board.proofs.Terms.{◌*◌, ◌/◌, ◌^◌, ◌≡◌, ◌≤◌, drop, index_named, Some}
use Rattle.psci_board.proofs.draft.place_of.Given as goal

abbrev pub invariant-loop-level : goal.invariant-loop-level
invariant-loop-level l = (l.low ≤ l.level)
    × (index_named (drop l.level l.levels) (l.fn.word / 2 ^ (8 * l.level)) ≡ Some l.place)
