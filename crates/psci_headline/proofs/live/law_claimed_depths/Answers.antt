-- A domain that is not fully on is as deep as a live claim on it.
use Rattle.psci_headline.proofs.OnBoards.{depths_claimed}
use Rattle.psci_headline.proofs.live.law_claimed_depths.Goals as goal

pub returns : goal.returns
returns c = depths_claimed
