-- The depths of the domains so far stand from the start on.
use Rattle.std.proofs.Common.{◌≡◌, ◌+◌, ◌≤◌, ◌++◌, length, take}
use Rattle.psci_ctl.specs.Saved.{depths}
use Rattle.psci_ctl.proofs.level.save_depths.Given as goal

abbrev pub invariant-loop-place : goal.invariant-loop-place
invariant-loop-place l = record {
  done : take (l.start + l.place) l.words
      ≡ take l.start l.fn.words ++ depths (take l.place l.rows);
  room : l.start + length l.rows ≤ length l.words;
}
