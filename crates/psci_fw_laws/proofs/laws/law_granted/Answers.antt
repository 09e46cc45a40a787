-- Granted depths.
use Rattle.psci_board.proofs.Paths.{path_laws}
use Rattle.psci_fw_spec.proofs.Always.{legal_values}
use Rattle.psci_fw_laws.proofs.Words.{sent_messages, values_of}
use Rattle.psci_fw_laws.proofs.Made.{deeper, none_active}
use Rattle.psci_fw_laws.proofs.Histories.{legal_holds}
use Rattle.psci_fw_laws.proofs.Made.{granted_below}
use Rattle.psci_fw_laws.proofs.laws.law_granted.Goals as goal

pub returns-clause-claims : goal.returns-clause-claims
returns-clause-claims c = λ b h board legal. (legal_holds b h board legal).grants

pub returns-clause-nested : goal.returns-clause-nested
returns-clause-nested c = λ b h board legal. (legal_values b h board legal).nested

pub returns-clause-asked : goal.returns-clause-asked
returns-clause-asked c = λ b h board legal x level.
    granted_below b (values_of b h) level x (path_laws b board) (legal_values b h board legal)

pub returns-clause-rests : goal.returns-clause-rests
returns-clause-rests c = λ b h board legal x level.
    none_active b (values_of b h) x level (path_laws b board) (legal_values b h board legal)

pub returns-clause-deeper : goal.returns-clause-deeper
returns-clause-deeper c = λ b h board legal x level p.
    deeper b (values_of b h) (sent_messages b h) x level p (legal_values b h board legal)
    (legal_holds b h board legal)
