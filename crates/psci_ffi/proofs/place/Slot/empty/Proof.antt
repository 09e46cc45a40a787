-- An empty slot owns nothing.
use Rattle.psci_ffi.specs.contracts.place.Slot.empty.Key.{name as #self}
use Rattle.psci_ffi.proofs.SlotEmpty.{firmware, met}
use Rattle.psci_ffi.proofs.place.Slot.empty.Statement.{statement}
use Rattle.psci_ffi.proofs.place.Slot.empty.Code.{unfolded}

pub empty_spec : {M : Type 1} → statement M
empty_spec 𝓤 𝓛 𝓜 𝓡 wired = met firmware 𝓛 𝓜 𝓡 #self (unfolded 𝓤 𝓛.H 𝓜 𝓡 wired)
