-- The fields move, and what they own goes with them.
use Rattle.psci_ffi.specs.contracts.guest.GuestSlot.of_parts.Key.{name as #self}
use Rattle.psci_ffi.proofs.SlotMoves.{of_met}
use Rattle.psci_ffi.proofs.SlotEmpty.{guest}
use Rattle.psci_ffi.proofs.guest.GuestSlot.of_parts.Statement.{statement}
use Rattle.psci_ffi.proofs.guest.GuestSlot.of_parts.Code.{unfolded}

pub of_parts_spec : {M : Type 1} → statement M
of_parts_spec 𝓤 𝓛 𝓜 𝓡 wired = of_met guest 𝓛 𝓜 𝓡 #self (unfolded 𝓤 𝓛.H 𝓜 𝓡 wired)
