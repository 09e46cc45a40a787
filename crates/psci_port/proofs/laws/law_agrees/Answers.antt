-- Once a port is at rest, its machine and the firmware agree.
use Rattle.psci_port.specs.Port.{state}
use Rattle.psci_port.proofs.Words.{IsAtRest, IsSendable, IsSound, MessageValue, Port, sendable}
use Rattle.psci_port.proofs.Words.{SettleLaws, size_laws, values_more}
use Rattle.psci_port.proofs.Undoing.{heard}
use Rattle.psci_port.proofs.Truth.{IsMirror, run_world}
use Rattle.psci_port.proofs.Running.{at_rest, run_kept}
use Rattle.psci_port.proofs.Undone.{agreed}
use Rattle.psci_port.proofs.Rows.{run_on, run_valued}
use Rattle.psci_ctl_spec.proofs.Depths.{change_kept, first_kept, reply_kept}
use Rattle.psci_ctl_spec.proofs.Steps as controls
use Rattle.psci_headline.proofs.OnBoards.{settle_laws}
use Rattle.psci_headline.proofs.Confirmed.{whole}
use Rattle.psci_port.proofs.laws.law_agrees.Goals as goal

pub returns : goal.returns
returns c = λ b acts board run so still.
    let p : Port = state b acts in
    let mirror : IsMirror b p =
    run_world b (controls.first_values b) (controls.values_more b) (values_more b)
    (λ has. (size_laws b has).some 0) acts run so in
    let rest : IsAtRest b p =
    at_rest b p (run_kept b acts run)
    (run_valued b (first_kept b board) (λ v f. change_kept b v f board)
    (λ v call. reply_kept b v call board) acts run) (run_on b acts run) still in
    let settles : SettleLaws b = settle_laws b board in
    let can : (m : MessageValue) → IsSound b m → IsSendable b m =
    λ m sound. sendable b m ((size_laws b board).most 0) sound in (
      λ k m at out. heard b p mirror (settles.past p.past mirror.legal.0) rest can k m at out,
      λ awake none.
          let agree = agreed b p settles mirror rest can awake none in
          (agree, whole b p.past board mirror.legal.0 awake agree),
    )
