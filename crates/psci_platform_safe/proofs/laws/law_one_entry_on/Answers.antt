-- Each entry of a platform takes up an opening of its own, or begins a life.
use Rattle.psci_platform_safe.proofs.Moments.{laws_of}
use Rattle.psci_platform_safe.proofs.Told.{entries}
use Rattle.psci_platform_safe.proofs.laws.law_one_entry_on.Goals as goal

pub returns : goal.returns
returns c = λ p past board is. entries p past (laws_of p board is)
