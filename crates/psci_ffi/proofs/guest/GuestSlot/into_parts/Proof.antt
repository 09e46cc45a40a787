-- The fields move, and what they own goes with them.
use Rattle.psci_ffi.specs.contracts.guest.GuestSlot.into_parts.Key.{name as #self}
use Rattle.psci_ffi.proofs.SlotMoves.{into_met}
use Rattle.psci_ffi.proofs.SlotEmpty.{guest}
use Rattle.psci_ffi.proofs.guest.GuestSlot.into_parts.Statement.{statement}
use Rattle.psci_ffi.proofs.guest.GuestSlot.into_parts.Code.{unfolded}

pub into_parts_spec : {M : Type 1} → statement M
into_parts_spec 𝓤 𝓛 𝓜 𝓡 wired = into_met guest 𝓛 𝓜 𝓡 #self (unfolded 𝓤 𝓛.H 𝓜 𝓡 wired)
