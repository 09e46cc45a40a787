-- The words are those of all slots where the rest of them is that of the others.
use Rattle.std.proofs.Common.{◌≡◌, ℕ, ◌+◌}
use Rattle.psci_messages.specs.Saved.{are_slots}
use Rattle.psci_messages.proofs.slot_words.are_slots.Given as goal

abbrev pub invariant-loop : goal.invariant-loop
invariant-loop l =
    (m : ℕ) → l.counter + m ≡ l.count → are_slots m l.rest ≡ are_slots l.count l.words
