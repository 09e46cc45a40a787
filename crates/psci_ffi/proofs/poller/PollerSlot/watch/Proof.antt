-- `watch` lends what is in the slot, and the slot follows it.
use Rattle.psci_ffi.specs.contracts.poller.PollerSlot.watch.Key.{name as #self}
use Rattle.psci_ffi.proofs.SlotLends.{met}
use Rattle.psci_ffi.proofs.SlotEmpty.{poller}
use Rattle.psci_ffi.proofs.poller.PollerSlot.watch.Statement.{statement}
use Rattle.psci_ffi.proofs.poller.PollerSlot.watch.Code.{unfolded}

pub watch_spec : {M : Type 1} → statement M
watch_spec 𝓤 𝓛 𝓜 𝓡 wired = met poller 𝓛 𝓜 𝓡 #self (unfolded 𝓤 𝓛.H 𝓜 𝓡 wired)
