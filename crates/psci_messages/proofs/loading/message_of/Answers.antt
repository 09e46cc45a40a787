-- The words begin with the kind of a message.
use Rattle.psci_messages.proofs.SavedSlots.{of_message_at}
use Rattle.psci_messages.proofs.loading.message_of.Goals as goal

pub message-requires : goal.message-requires
message-requires c =
    of_message_at c.args.words.now c.requires c.in-len4-up.len_at_least c.if-kind-eq0.false
