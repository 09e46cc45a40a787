-- Claims were asked for.
use Rattle.psci_headline.proofs.OnBoards.{claims_asked}
use Rattle.psci_headline.proofs.live.law_asked_claims.Goals as goal

pub returns : goal.returns
returns c = claims_asked
