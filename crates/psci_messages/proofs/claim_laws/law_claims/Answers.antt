-- The laws of every claim.
use Rattle.psci_messages.proofs.ClaimLaws.{claim_laws}
use Rattle.psci_messages.proofs.claim_laws.law_claims.Goals as goal

pub returns : goal.returns
returns c = claim_laws
