-- The entry that begins a life.
use Rattle.psci_fw_laws.proofs.Histories.{answered, left_after}
use Rattle.psci_fw_laws.proofs.laws.law_new_life.Goals as goal

pub returns-clause-answer : goal.returns-clause-answer
returns-clause-answer c = answered

pub returns-clause-after : goal.returns-clause-after
returns-clause-after c = left_after
