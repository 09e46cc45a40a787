-- The levels so far are off, and the others are as they were.
use Rattle.std.proofs.Common.{◌≡◌, ℕ, ◌<◌, ◌≤◌, [], get_or, length, replicate}
use Rattle.psci_ctl.specs.Rows.{off_domain}
use Rattle.psci_ctl.proofs.domains.turn_off.Given as goal

abbrev pub invariant-loop-level : goal.invariant-loop-level
invariant-loop-level l = record {
  done : (k : ℕ) → k < l.level-index
      → get_or l.levels k [] ≡ replicate (length (get_or l.fn.levels k [])) off_domain;
  left : (k : ℕ) → l.level-index ≤ k → get_or l.levels k [] ≡ get_or l.fn.levels k [];
  long : length l.levels ≡ length l.fn.levels;
}
