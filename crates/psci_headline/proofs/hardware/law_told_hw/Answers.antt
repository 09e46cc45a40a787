-- Domains that NODE_HW_STATE says are off or in standby.
use Rattle.psci_headline.proofs.ToldHw.{said_off, said_standby}
use Rattle.psci_headline.proofs.Confirmed.{states_real}
use Rattle.psci_headline.proofs.OnBoards.{hw_off_told, standby_told}
use Rattle.psci_headline.proofs.Runs.{control_values}
use Rattle.psci_headline.proofs.hardware.law_told_hw.Goals as goal

pub returns : goal.returns
returns c = record {
  off = hw_off_told;
  standby = standby_told;
  said_off = λ b past n board legal. said_off b past n
      (λ p is. (control_values b p board is).deepest) legal (states_real b past board legal);
  said_standby = λ b past n board legal. said_standby b past n
      (λ p is. (control_values b p board is).deepest) legal (states_real b past board legal);
}
