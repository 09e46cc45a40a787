-- What a reset of a core leaves.
use Rattle.psci_control.proofs.Asked.{goes_on, reset_asked}
use Rattle.psci_control.proofs.control_side.ControlSide.reset.Goals as goal

pub invariant_of-self : goal.invariant_of-self
invariant_of-self c = goes_on _ c.reset-kick.new.self c.self.invariant c.reset-kick.ensures.board

pub returns-clause-asked : goal.returns-clause-asked
returns-clause-asked c =
    reset_asked _ _ c.reset-kick.new.self c.args.core c.reset-kick.result c.self.view_is
    c.reset-kick.ensures.board c.reset-kick.ensures.after c.reset-kick.ensures.reply
