-- The depths of the domains so far stand from the start on.
use Rattle.std.proofs.Common.{◌≡◌, ◌+◌, ◌≤◌, ◌++◌, length, map, take}
use Rattle.psci_tree.specs.DepthRows.{depth_of}
use Rattle.psci_tree.proofs.saving.save_row.Given as goal

abbrev pub invariant-loop-place : goal.invariant-loop-place
invariant-loop-place l = record {
  done : take (l.start + l.place) l.words
      ≡ take l.start l.fn.words ++ map (depth_of l.which) (take l.place l.row);
  room : l.start + length l.row ≤ length l.words;
}
