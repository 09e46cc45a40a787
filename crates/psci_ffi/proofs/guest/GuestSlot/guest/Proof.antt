-- `guest` lends what is in the slot, and the slot follows it.
use Rattle.psci_ffi.specs.contracts.guest.GuestSlot.guest.Key.{name as #self}
use Rattle.psci_ffi.proofs.SlotLends.{met}
use Rattle.psci_ffi.proofs.SlotEmpty.{guest}
use Rattle.psci_ffi.proofs.guest.GuestSlot.guest.Statement.{statement}
use Rattle.psci_ffi.proofs.guest.GuestSlot.guest.Code.{unfolded}

pub guest_spec : {M : Type 1} → statement M
guest_spec 𝓤 𝓛 𝓜 𝓡 wired = met guest 𝓛 𝓜 𝓡 #self (unfolded 𝓤 𝓛.H 𝓜 𝓡 wired)
