-- `side` lends what is in the slot, and the slot follows it.
use Rattle.psci_ffi.specs.contracts.control_place.ControlSlot.side.Key.{name as #self}
use Rattle.psci_ffi.proofs.SlotLends.{control, met}
use Rattle.psci_ffi.proofs.control_place.ControlSlot.side.Statement.{statement}
use Rattle.psci_ffi.proofs.control_place.ControlSlot.side.Code.{unfolded}

pub side_spec : {M : Type 1} → statement M
side_spec 𝓤 𝓛 𝓜 𝓡 wired = met control 𝓛 𝓜 𝓡 #self (unfolded 𝓤 𝓛.H 𝓜 𝓡 wired)
