-- A slot may go to another thread, since its value may.
use denote.Param.Send.{IsSend}
use Rattle.psci_ffi.specs.contracts.control_place.ControlSlot.{the_row}
use Rattle.psci_ffi.proofs.SlotLends as form
use Rattle.psci_ffi.proofs.Crossing as crossing

pub send : IsSend the_row
send = crossing.crosses form.control form.side
