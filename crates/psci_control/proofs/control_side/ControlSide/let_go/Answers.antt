-- Nothing waits.
use Rattle.std.proofs.Common.{refl}
use Rattle.psci_control.proofs.Asked.{frees, seen_core}
use Rattle.psci_control.proofs.control_side.ControlSide.let_go.Goals as goal

pub invariant_of-self : goal.invariant_of-self
invariant_of-self c =
    frees _ c.args.core.number _ c.self.invariant
    (seen_core _ _ _ c.self.view_is c.requires) refl
