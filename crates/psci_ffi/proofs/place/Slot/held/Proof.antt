-- `held` lends what is in the slot, and the slot follows it.
use Rattle.psci_ffi.specs.contracts.place.Slot.held.Key.{name as #self}
use Rattle.psci_ffi.proofs.SlotLends.{met}
use Rattle.psci_ffi.proofs.SlotEmpty.{firmware}
use Rattle.psci_ffi.proofs.place.Slot.held.Statement.{statement}
use Rattle.psci_ffi.proofs.place.Slot.held.Code.{unfolded}

pub held_spec : {M : Type 1} → statement M
held_spec 𝓤 𝓛 𝓜 𝓡 wired = met firmware 𝓛 𝓜 𝓡 #self (unfolded 𝓤 𝓛.H 𝓜 𝓡 wired)
