-- There is room for its parts.
use Rattle.psci_link.proofs.Frames.{few-held}
use Rattle.psci_link.proofs.decoding.message_in.Goals as goal

pub counted_parts-requires-clause-few : goal.counted_parts-requires-clause-few
counted_parts-requires-clause-few c = few-held c.args.kind c.args.bytes.now c.requires.held
