-- The firmware's numbers and the MPIDRs of cores name each other.
use Rattle.psci_platform_safe.proofs.Moments.{boot_core, boot_zero, laws_of, mpidr_back}
use Rattle.psci_platform_safe.proofs.Moments.{number_back, number_inside, some_core}
use Rattle.psci_platform_safe.proofs.laws.law_numbers.Goals as goal

pub returns : goal.returns
returns c = record {
  core = λ p mpidr board is it. let laws = laws_of p board is in
      (number_inside p mpidr laws it, mpidr_back p mpidr laws it);
  number = λ p k board is inside. let laws = laws_of p board is in
      (some_core p k laws inside, number_back p k laws inside);
  boot = λ p board is. let laws = laws_of p board is in (boot_core p laws, boot_zero p laws);
}
