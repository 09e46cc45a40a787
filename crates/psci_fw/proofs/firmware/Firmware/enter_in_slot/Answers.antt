-- An entry that is refused leaves all, and another one is carried out.
use Rattle.std.proofs.Common.{rules}
use Rattle.psci_fw_spec.specs.Effects.{after}
use Rattle.psci_fw_spec.specs.Answer.{answer}
use Rattle.psci_fw.proofs.firmware.Firmware.enter_in_slot.Goals as goal

pub returns-in_err-check_start-clause-answer : goal.returns-in_err-check_start-clause-answer
unfolding answer after
returns-in_err-check_start-clause-answer g c = search rules

pub returns-in_err-check_start-clause-after : goal.returns-in_err-check_start-clause-after
unfolding answer after
returns-in_err-check_start-clause-after g c = search rules

pub returns-in_err-check_start-clause-refused : goal.returns-in_err-check_start-clause-refused
unfolding answer after
returns-in_err-check_start-clause-refused g c = search rules

pub returns-clause-answer : goal.returns-clause-answer
unfolding answer after
returns-clause-answer g c = search rules
