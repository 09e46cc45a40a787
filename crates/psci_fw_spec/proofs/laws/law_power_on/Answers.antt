-- The target of an accepted CPU_ON was off.
use Rattle.psci_fw_spec.proofs.Words.{arith, target}
use Rattle.psci_fw_spec.proofs.Changing.{was_asked}
use Rattle.psci_fw_spec.proofs.laws.law_power_on.Goals as goal

pub returns : goal.returns
returns c = record {
  off = λ b v c caller regs asked e. (was_asked b v c caller regs asked e).off;
  away = λ b v c caller regs asked are e.
      grind (arith, are.agree (target asked), was_asked b v c caller regs asked e);
  request = λ b v c caller regs asked e.
      let was = was_asked b v c caller regs asked e in (was.word, was.core, was.request);
}
