-- Below a domain with a live claim no core executes.
use Rattle.psci_headline.proofs.OnBoards.{none_executes}
use Rattle.psci_headline.proofs.live.law_none_executes.Goals as goal

pub returns : goal.returns
returns c = none_executes
