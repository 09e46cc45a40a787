-- The depths of the levels so far stand from the start on.
use Rattle.std.proofs.Common.{◌≡◌, ◌+◌, ◌≤◌, ◌++◌, flat_map, length, take}
use Rattle.psci_ctl.specs.Saved.{depths}
use Rattle.psci_ctl.proofs.saving.save_domains.Given as goal

abbrev pub invariant-loop-level : goal.invariant-loop-level
invariant-loop-level l = record {
  done : take l.next l.words
      ≡ take l.start l.fn.words ++ flat_map depths (take l.level-index l.levels);
  next : l.next ≡ l.start + length (flat_map depths (take l.level-index l.levels));
  room : l.start + length (flat_map depths l.levels) ≤ length l.words;
}
