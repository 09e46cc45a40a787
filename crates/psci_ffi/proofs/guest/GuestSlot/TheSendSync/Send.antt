-- A slot may go to another thread, since its value may.
use denote.Param.Send.{IsSend}
use Rattle.psci_ffi.specs.contracts.guest.GuestSlot.{the_row}
use Rattle.psci_ffi.proofs.Crossing as crossing
use Rattle.psci_ffi.proofs.SlotEmpty.{guest}

pub send : IsSend the_row
send = crossing.crosses guest crossing.guest
