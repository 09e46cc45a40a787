-- In the histories of a legal past every reply is the one reply.
use Rattle.psci_world_spec.proofs.Answered.{controller_answered, firmware_legal}
use Rattle.psci_world_spec.proofs.laws.law_histories.Goals as goal

pub returns : goal.returns
returns c = record { firmware = firmware_legal; controller = controller_answered }
