-- What NODE_HW_STATE says, exactly.
use Rattle.psci_fw_laws.proofs.Claiming.{says_alike, says_off, says_on, says_standby}
use Rattle.psci_fw_laws.proofs.Claiming.{unconfirmed_on}
use Rattle.psci_fw_laws.proofs.exactly.law_hw_exactly.Goals as goal

pub returns-clause-off : goal.returns-clause-off
returns-clause-off c = says_off

pub returns-clause-standby : goal.returns-clause-standby
returns-clause-standby c = says_standby

pub returns-clause-on : goal.returns-clause-on
returns-clause-on c = says_on

pub returns-clause-unconfirmed : goal.returns-clause-unconfirmed
returns-clause-unconfirmed c = unconfirmed_on

pub returns-clause-alike : goal.returns-clause-alike
returns-clause-alike c = says_alike
