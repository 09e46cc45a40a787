-- No firmware is in a life beyond the board's last one, by each kind of call.
use Rattle.std.proofs.Common.{arith}
use Rattle.psci_fw.proofs.Answered.{call_lives, enter_lives}
use Rattle.psci_fw_spec.proofs.Changing.{enters_life, same_life}
use Rattle.psci_fw.proofs.laws.law_lives.Goals as goal

pub returns-clause-first : goal.returns-clause-first
returns-clause-first c = λ b. omega arith

pub returns-clause-call : goal.returns-clause-call
returns-clause-call c = λ b v core regs o.
    call_lives b v core regs o (same_life b v core regs _)

pub returns-clause-enter : goal.returns-clause-enter
returns-clause-enter c = λ b v core s o.
    enter_lives b v core s o (enters_life b v core s o)

pub returns-clause-take : goal.returns-clause-take
returns-clause-take c = λ b v a low. low
