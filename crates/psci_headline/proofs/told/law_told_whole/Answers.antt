-- Once the world has settled all is told.
use Rattle.psci_headline.specs.Settling.{settled}
use Rattle.psci_headline.proofs.OnBoards.{settle_laws}
use Rattle.psci_headline.proofs.Confirmed.{whole}
use Rattle.psci_headline.proofs.Settled.{reached}
use Rattle.psci_headline.proofs.told.law_told_whole.Goals as goal

pub returns : goal.returns
returns c = λ b past board legal awake.
    let end = reached b past (settle_laws b board) legal awake in
    whole b (settled b past).past board end.legal end.awake end.rest
