-- On each board, by the lemmas of the crates below: what holds of the firmware and of the power
-- controller in every legal run, and what the two know of each other.
use Rattle.psci_headline.proofs.Words.{Agree, AreValues, BoardValue, change, controller_history}
use Rattle.psci_headline.proofs.Words.{controller_values, firmware_history, firmware_legal}
use Rattle.psci_headline.proofs.Words.{firmware_values, Holds, IsLegalPast, List, Record, sent}
use Rattle.psci_headline.proofs.Words.{subst, sym}
use Rattle.psci_board.proofs.Paths.{size_laws}
use Rattle.psci_board.specs.Board.{IsBoard}
use Rattle.psci_ctl_spec.proofs.Depths.{follows, legal_kept}
use Rattle.psci_fw_laws.proofs.fw_spec.Always.{legal_values}
use Rattle.psci_fw_laws.proofs.fw_spec.Changing.{asks_on_same, goes_on_same}
use Rattle.psci_fw_laws.proofs.Histories.{legal_allowed, legal_holds, values_after}
use Rattle.psci_headline.proofs.Agreed.{agrees, RunLaws}
use Rattle.psci_headline.proofs.Moves.{FirmwareLaws}
use Rattle.psci_headline.proofs.Sending.{controls_legal, same_sent, sendable}
use Rattle.psci_ctl_spec.specs.History as controls

-- The firmware and the power controller -------------------------------------------------------

pub firmware_laws : (b : BoardValue) → IsBoard b → FirmwareLaws b
firmware_laws b board =
    record { allowed = λ e h. legal_allowed b e h board; values = values_after b }

pub run_values : (b : BoardValue) (past : List Record) → IsBoard b → IsLegalPast b past
    → AreValues b (firmware_values b past)
run_values b past board legal =
    legal_values b (firmware_history b past) board (firmware_legal b past legal)

pub sent_holds : (b : BoardValue) (past : List Record) → IsBoard b → IsLegalPast b past
    → Holds b (firmware_values b past) (sent past)
sent_holds b past board legal =
    subst (Holds b (firmware_values b past)) (sym (same_sent b past legal))
    (legal_holds b (firmware_history b past) board (firmware_legal b past legal))

pub controlled : (b : BoardValue) (past : List Record) → IsBoard b → IsLegalPast b past
    → controls.IsLegal b (controller_history b past)
controlled b past board =
    controls_legal b (λ p is k m at. sendable b m ((size_laws b board).most 0)
    ((sent_holds b p board is).messages k m at).sound) past

pub control_values : (b : BoardValue) (past : List Record) → IsBoard b → IsLegalPast b past
    → controls.AreValues b (controller_values b past)
control_values b past board legal =
    legal_kept b (controller_history b past) board (controlled b past board legal)

-- What the two know of each other -------------------------------------------------------------

pub run_laws : (b : BoardValue) → IsBoard b → RunLaws b
run_laws b board = record {
  follows = λ v call. follows b v call board;
  controls = λ p. controlled b p board;
  change = values_after b;
  allowed = λ e h. legal_allowed b e h board;
  callers = record { goes_on = goes_on_same b; asks_on = asks_on_same b };
}

pub agreement : (b : BoardValue) (past : List Record) → IsBoard b → IsLegalPast b past
    → Agree b past
agreement b past board = agrees b (run_laws b board) past
