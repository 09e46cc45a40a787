-- A slot may go to another thread, since its value may.
use denote.Param.Send.{IsSend}
use Rattle.psci_ffi.specs.contracts.place.Slot.{the_row}
use Rattle.psci_ffi.proofs.Crossing as crossing
use Rattle.psci_ffi.proofs.SlotEmpty.{firmware}

pub send : IsSend the_row
send = crossing.crosses firmware crossing.held
