-- The rows so far are those of their words.
use Rattle.std.proofs.Common.{◌≡◌, length, map, take}
use Rattle.psci_ctl.specs.Saved.{core_of}
use Rattle.psci_ctl.proofs.loading.load_cores.Given as goal

abbrev pub invariant-loop-core : goal.invariant-loop-core
invariant-loop-core l = record {
  done : take l.core l.rows ≡ map core_of (take l.core l.words);
  long : length l.rows ≡ length l.words;
}
