-- What a wake-up leaves.
use Rattle.psci_control.proofs.Asked.{goes_on, wake_asked}
use Rattle.psci_control.proofs.control_side.ControlSide.wake.Goals as goal

pub invariant_of-self-2 : goal.invariant_of-self-2
invariant_of-self-2 c = goes_on _ c.wake.new.controller c.self.invariant c.wake.ensures.board

pub returns-clause-asked : goal.returns-clause-asked
returns-clause-asked c =
    wake_asked _ _ c.wake.new.controller c.word-word.result c.self.view_is c.wake.ensures.board
    c.args.core c.word-word.ensures c.wake.ensures.after
