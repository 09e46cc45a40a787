-- What both keep, step by step, and that each run of turns is settled.
use Rattle.psci_guest.specs.Turns.{turns}
use Rattle.psci_guest.proofs.Happened.{TurnLaws}
use Rattle.psci_guest.proofs.Stepping.{steps}
use Rattle.psci_guest.proofs.Turning.{goes_on, home, IsHome, rests}
use Rattle.psci_headline.proofs.Nexts.{SettleLaws}
use Rattle.psci_headline.proofs.OnBoards.{settle_laws}
use Rattle.psci_headline.proofs.Confirmed.{whole}
use Rattle.psci_headline.proofs.Runs.{firmware_laws}
use Rattle.psci_headline.proofs.Sending.{same_sent}
use Rattle.psci_fw_spec.proofs.Stopping.{values_more}
use Rattle.psci_guest.proofs.steps.law_steps.Goals as goal

pub returns : goal.returns
returns c = λ b board.
    let settles : SettleLaws b = settle_laws b board in
    let turning : TurnLaws b = record {
      settle = settles;
      firmware = firmware_laws b board;
      sent = same_sent b;
    } in
    steps b turning (values_more b) (λ ts.
    let all : IsHome b (turns b ts) = home b ts turning in
    record {
      legal = all.legal;
      safe = c.law_safe.ensures b (turns b ts) board all.legal;
      rest = λ life present. rests b (turns b ts) life turning all present;
      told = λ life present.
          whole b (turns b ts) board all.legal (goes_on b (turns b ts) life turning all present)
          (rests b (turns b ts) life turning all present);
      over = λ none x. (settles.past (turns b ts) all.legal).given.agreed.stopped none x;
    })
