-- Claims are apart.
use Rattle.psci_headline.proofs.OnBoards.{claims_apart}
use Rattle.psci_headline.proofs.live.law_live_claims.Goals as goal

pub returns : goal.returns
returns c = claims_apart
