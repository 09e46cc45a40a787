-- What is sent is for a core of the board.
use Rattle.std.proofs.Common.{◌∙◌, ap, subst, sym}
use Rattle.psci_board.specs.Board.{BoardValue}
use Rattle.psci_ctl_spec.specs.History.{IsOfBoard}
use Rattle.psci_fw.specs.Reactions.{seen as seen_firmware}
use Rattle.psci_fw_spec.specs.declared.call.FwCall.TheVariants as calls
use Rattle.psci_guest.specs.Pair.{message_of}
use Rattle.psci_guest.proofs.pair.Pair.call.Goals as goal

pub deliver-requires : goal.deliver-requires
deliver-requires c = λ m e.
    let old = c.self.inside.firmware in
    subst (λ (b : BoardValue). IsOfBoard b m) (sym c.in_ok-outcome.ensures.board)
    (c.law_sends.ensures old.board c.self.invariant.board (seen_firmware old)
    c.args.core.number (calls.Smc c.args.regs) m
    (ap message_of (sym c.in_ok-outcome.ensures.answer) ∙ sym c.as_ref.ensures.value ∙ e))
