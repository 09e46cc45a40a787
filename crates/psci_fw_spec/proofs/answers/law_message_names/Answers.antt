-- What a message names.
use Rattle.psci_fw_spec.proofs.Changing.{named, park_named}
use Rattle.psci_fw_spec.proofs.answers.law_message_names.Goals as goal

pub returns : goal.returns
returns c = record { function = named; park = park_named }
