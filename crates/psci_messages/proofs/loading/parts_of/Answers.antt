-- The parts of a kind are no deeper than power-down.
use Rattle.psci_messages.proofs.SavedLaws.{deep_of}
use Rattle.psci_messages.proofs.loading.parts_of.Goals as goal

pub add_parts-requires-clause-deep : goal.add_parts-requires-clause-deep
add_parts-requires-clause-deep c = deep_of c.args.kind c.args.words.now c.requires
