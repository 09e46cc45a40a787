-- An empty slot owns nothing.
use Rattle.psci_ffi.specs.contracts.control_place.ControlSlot.empty.Key.{name as #self}
use Rattle.psci_ffi.proofs.SlotEmpty.{met}
use Rattle.psci_ffi.proofs.SlotLends.{control}
use Rattle.psci_ffi.proofs.control_place.ControlSlot.empty.Statement.{statement}
use Rattle.psci_ffi.proofs.control_place.ControlSlot.empty.Code.{unfolded}

pub empty_spec : {M : Type 1} → statement M
empty_spec 𝓤 𝓛 𝓜 𝓡 wired = met control 𝓛 𝓜 𝓡 #self (unfolded 𝓤 𝓛.H 𝓜 𝓡 wired)
