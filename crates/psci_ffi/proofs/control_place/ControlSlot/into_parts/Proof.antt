-- The fields move, and what they own goes with them.
use Rattle.psci_ffi.specs.contracts.control_place.ControlSlot.into_parts.Key.{name as #self}
use Rattle.psci_ffi.proofs.SlotMoves.{into_met}
use Rattle.psci_ffi.proofs.SlotLends.{control}
use Rattle.psci_ffi.proofs.control_place.ControlSlot.into_parts.Statement.{statement}
use Rattle.psci_ffi.proofs.control_place.ControlSlot.into_parts.Code.{unfolded}

pub into_parts_spec : {M : Type 1} → statement M
into_parts_spec 𝓤 𝓛 𝓜 𝓡 wired = into_met control 𝓛 𝓜 𝓡 #self (unfolded 𝓤 𝓛.H 𝓜 𝓡 wired)
