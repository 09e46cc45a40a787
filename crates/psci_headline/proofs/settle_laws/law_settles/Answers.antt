-- The world settles.
use Rattle.psci_headline.proofs.OnBoards.{settle_laws}
use Rattle.psci_headline.proofs.Settled.{settles}
use Rattle.psci_headline.proofs.settle_laws.law_settles.Goals as goal

pub returns : goal.returns
returns c = λ b past board legal awake.
    let reached = settles b past (settle_laws b board) legal awake in
    (reached.added, reached.is, reached.settled)
