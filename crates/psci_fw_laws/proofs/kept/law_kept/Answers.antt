-- What is kept.
use Rattle.psci_fw_laws.proofs.Histories.{legal_allowed, legal_holds, sent_more, values_after}
use Rattle.psci_fw_laws.proofs.kept.law_kept.Goals as goal

pub returns : goal.returns
returns c = record {
  kept = legal_holds;
  allowed = legal_allowed;
  values = values_after;
  sent = sent_more;
}
