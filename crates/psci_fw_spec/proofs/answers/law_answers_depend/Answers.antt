-- What an answer depends on.
use Rattle.psci_fw_spec.proofs.Words.{ap, refl}
use Rattle.psci_messages.specs.Slots.{taken}
use Rattle.psci_fw_spec.proofs.Depending.{affinity_same, enter_same, mode_same, node_hw_same}
use Rattle.psci_fw_spec.proofs.Depending.{off_same, on_same, reset_same, suspend_same, system_same}
use Rattle.psci_fw_spec.proofs.answers.law_answers_depend.Goals as goal

pub returns : goal.returns
returns c = record {
  version = λ b v w d e. refl;
  migration = λ b v w d e. refl;
  features = λ b v w d e word. refl;
  unknown = λ b v w d e. refl;
  reset = reset_same;
  on = on_same;
  affinity = affinity_same;
  hardware = node_hw_same;
  mode = mode_same;
  suspend = suspend_same;
  off = off_same;
  system = system_same;
  enter = enter_same;
  take = λ v w a e. ap (taken a) e;
}
