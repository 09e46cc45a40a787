-- An acknowledgement is answered by what becomes of it.
use Rattle.std.proofs.Common.{rules}
use Rattle.psci_fw_spec.specs.Answer.{answer}
use Rattle.psci_fw.proofs.firmware.Firmware.take.Goals as goal

pub returns-clause-answer : goal.returns-clause-answer
unfolding answer
returns-clause-answer c = search rules
