-- What the slots so far have stands from the start on.
use Rattle.std.proofs.Common.{◌≡◌, ℕ, ◌+◌, ◌*◌, ◌<◌, ◌≤◌}
use Rattle.std.proofs.Common.{◌++◌, Some, None, flat_map, get_or, length}
use Rattle.std.proofs.Common.{take}
use Rattle.psci_messages.specs.Message.{MessageValue}
use Rattle.psci_messages.specs.Saved.{IsKept, slot_words}
use Rattle.psci_messages.proofs.saving.save_slots.Given as goal

abbrev pub invariant-loop-core : goal.invariant-loop-core
invariant-loop-core l = record {
  done : take (l.start + 12 * l.core) l.words
      ≡ take l.start l.fn.words ++ flat_map slot_words (take l.core l.slots);
  room : l.start + 12 * length l.slots ≤ length l.words;
  kept : (k : ℕ) (m : MessageValue) → k < l.core → get_or l.slots k None ≡ Some m → IsKept m;
}
