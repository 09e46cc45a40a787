-- A firmware that no core has entered is as at the start of a life, by each kind of call.
use Rattle.psci_fw.proofs.Answered.{begun_fresh, call_fresh, enter_fresh, first_fresh}
use Rattle.psci_fw.proofs.Answered.{take_fresh}
use Rattle.psci_fw_spec.proofs.Changing.{enters_life, same_life}
use Rattle.psci_fw.proofs.laws.law_fresh.Goals as goal

pub returns-clause-first : goal.returns-clause-first
returns-clause-first c = first_fresh

pub returns-clause-begun : goal.returns-clause-begun
returns-clause-begun c = begun_fresh

pub returns-clause-call : goal.returns-clause-call
returns-clause-call c = λ b v core regs o.
    call_fresh b v core regs o (same_life b v core regs _)

pub returns-clause-enter : goal.returns-clause-enter
returns-clause-enter c = λ b v core s o.
    enter_fresh b v core s o (enters_life b v core s o)

pub returns-clause-take : goal.returns-clause-take
returns-clause-take c = take_fresh
