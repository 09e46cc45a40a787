-- What an acknowledgement confirms, exactly.
use Rattle.psci_fw_laws.proofs.Claiming.{confirmed_only, confirmed_where}
use Rattle.psci_fw_laws.proofs.exactly.law_confirmed_exactly.Goals as goal

pub returns : goal.returns
returns c = λ b v a level place.
    (confirmed_only b v a level place, confirmed_where b v a level place)
