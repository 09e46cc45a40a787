-- The way so far leads from the core up to the place of this level.
use Rattle.psci_tree.proofs.Words.{◌<◌, ◌≡◌, get_or, length, place_above, ℕ}
use Rattle.psci_tree.proofs.way.way_to.Given as goal

abbrev pub invariant-loop-level : goal.invariant-loop-level
invariant-loop-level l =
    let levels = l.board.levels in
    let core = l.fn.core.number in
    record {
      wide : length l.places ≡ 4;
      place : l.place ≡ place_above levels l.level core;
      path : (k : ℕ) → k < l.level → get_or l.places k 0 ≡ place_above levels k core;
    }
