-- What waits is as before.
use Rattle.std.proofs.Common.{refl}
use Rattle.psci_control.proofs.Asked.{seen_core, stays}
use Rattle.psci_control.proofs.control_side.ControlSide.stands.Goals as goal

pub invariant_of-self : goal.invariant_of-self
invariant_of-self c =
    stays _ c.args.core.number _ c.index_mut.result.now c.self.invariant
    (seen_core _ _ _ c.self.view_is c.requires) c.index_mut.ensures.value refl
