-- A core has no more statuses than its starts and the lives allow.
use Rattle.psci_fw_spec.specs.History.{values_of}
use Rattle.psci_fw_spec.specs.Effects.{sent_messages}
use Rattle.psci_fw_spec.proofs.Always.{legal_values}
use Rattle.psci_fw_laws.proofs.Histories.{legal_allowed, legal_holds, values_after}
use Rattle.psci_fw_laws.proofs.Made.{within}
use Rattle.psci_status.proofs.Counting.{few_statuses}
use Rattle.psci_status.proofs.laws.law_few_statuses.Goals as goal

pub returns : goal.returns
returns c b h core board legal =
    few_statuses b h core legal_allowed values_after legal_values board legal
    (within b (values_of b h) (sent_messages b h) (legal_values b h board legal)
    (legal_holds b h board legal))
