-- Claims.
use Rattle.psci_fw_laws.proofs.Words.{sent_messages}
use Rattle.psci_fw_laws.proofs.Made.{once}
use Rattle.psci_fw_laws.proofs.Claiming.{claim_older}
use Rattle.psci_fw_laws.proofs.Histories.{legal_holds}
use Rattle.psci_fw_laws.proofs.laws.law_claimed.Goals as goal

pub returns-clause-apart : goal.returns-clause-apart
returns-clause-apart c = λ b h board legal. (legal_holds b h board legal).apart

pub returns-clause-once : goal.returns-clause-once
returns-clause-once c = λ b h board legal.
    once b (sent_messages b h) (legal_holds b h board legal).apart

pub returns-clause-older : goal.returns-clause-older
returns-clause-older c = λ b h board legal level place p.
    claim_older (sent_messages b h) (legal_holds b h board legal).messages

pub returns-clause-quiet : goal.returns-clause-quiet
returns-clause-quiet c = λ b h board legal. (legal_holds b h board legal).quiet
