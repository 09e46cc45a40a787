-- Fewer words are left each time.
use Rattle.std.proofs.Common.{length}
use Rattle.psci_messages.proofs.slot_words.+are_parts.Given as goal

abbrev pub decreases-are_parts : goal.decreases-are_parts
decreases-are_parts l = length l.words.now
