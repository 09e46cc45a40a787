-- The words of the cores so far stand from the start on.
use Rattle.std.proofs.Common.{◌≡◌, ℕ, ◌+◌, ◌*◌, ◌^◌, ◌<◌, ◌≤◌, ◌++◌, flat_map, get_or, length, take}
use Rattle.psci_state.specs.declared.cores.CoreState.{CoreState}
use Rattle.psci_tree.specs.Saved.{core_words}
use Rattle.psci_tree.proofs.saving.save_cores.Given as goal

abbrev pub invariant-loop-core : goal.invariant-loop-core
invariant-loop-core l = record {
  done : take (l.start + 2 * l.core) l.words
      ≡ take l.start l.fn.words ++ flat_map core_words (take l.core l.cores);
  room : l.start + 2 * length l.cores ≤ length l.words;
  small : (k : ℕ) (d : CoreState) → k < l.core → (get_or l.cores k d).known < 2 ^ 32;
}
