-- The slots so far have their words, and the rest of the words is that of the others.
use Rattle.std.proofs.Common.{◌≡◌, ℕ, ◌+◌, ◌++◌, flat_map, length, take, true}
use Rattle.psci_messages.specs.Saved.{are_slots, slot_words}
use Rattle.psci_messages.proofs.loading.load_slots.Given as goal

abbrev pub invariant-loop-core : goal.invariant-loop-core
invariant-loop-core l = record {
  done : flat_map slot_words (take l.core l.slots) ++ l.rest ≡ l.words;
  left : (m : ℕ) → l.core + m ≡ length l.slots → are_slots m l.rest ≡ true;
  long : length l.slots ≡ length l.fn.slots;
}
