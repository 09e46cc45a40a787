-- The words of the cores so far stand behind the heading.
use Rattle.std.proofs.Common.{◌≡◌, ◌+◌, ◌≤◌, ◌++◌, length, map, take}
use Rattle.psci_ctl.specs.Saved.{core_word}
use Rattle.psci_ctl.proofs.saving.save_cores.Given as goal

abbrev pub invariant-loop-core : goal.invariant-loop-core
invariant-loop-core l = record {
  done : take (3 + l.core) l.words ≡ take 3 l.fn.words ++ map core_word (take l.core l.rows);
  room : 3 + length l.rows ≤ length l.words;
}
