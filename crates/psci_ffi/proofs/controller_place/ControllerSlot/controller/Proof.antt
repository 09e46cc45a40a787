-- `controller` lends what is in the slot, and the slot follows it.
use Rattle.psci_ffi.specs.contracts.controller_place.ControllerSlot.controller.Key.{name as #self}
use Rattle.psci_ffi.proofs.SlotLends.{met}
use Rattle.psci_ffi.proofs.SlotEmpty.{controller}
use Rattle.psci_ffi.proofs.controller_place.ControllerSlot.controller.Statement.{statement}
use Rattle.psci_ffi.proofs.controller_place.ControllerSlot.controller.Code.{unfolded}

pub controller_spec : {M : Type 1} → statement M
controller_spec 𝓤 𝓛 𝓜 𝓡 wired = met controller 𝓛 𝓜 𝓡 #self (unfolded 𝓤 𝓛.H 𝓜 𝓡 wired)
