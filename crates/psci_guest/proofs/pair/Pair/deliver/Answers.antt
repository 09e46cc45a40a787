-- What is delivered is of the power controller's board.
use Rattle.std.proofs.Common.{◌∙◌, ap, option_map, subst, sym}
use Rattle.psci_board.specs.Board.{BoardValue}
use Rattle.psci_ctl_spec.specs.History.{IsOfBoard}
use Rattle.psci_guest.specs.Pair.{board_of}
use Rattle.psci_guest.proofs.pair.Pair.deliver.Goals as goal

pub deliver-requires : goal.deliver-requires
deliver-requires c =
    let m = c.in-Some.message.now in
    subst (λ (b : BoardValue). IsOfBoard b m)
    (sym (ap board_of c.self.view_is) ∙ sym c.self.invariant.same)
    (c.requires m (ap (option_map (λ x. x.now)) c.in-Some.is))
