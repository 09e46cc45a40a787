-- A legal history of a platform is safe at every moment.
use Rattle.psci_platform_safe.proofs.Moments.{laws_of}
use Rattle.psci_platform_safe.proofs.AskedFor.{always}
use Rattle.psci_platform_safe.proofs.laws.law_safe_on.Goals as goal

pub returns : goal.returns
returns c = λ p past board is. always p past (laws_of p board is)
