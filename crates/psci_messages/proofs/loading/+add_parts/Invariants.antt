-- Fewer words are left each time.
use Rattle.std.proofs.Common.{length}
use Rattle.psci_messages.proofs.loading.+add_parts.Given as goal

abbrev pub decreases-add_parts : goal.decreases-add_parts
decreases-add_parts l = length l.words.now
