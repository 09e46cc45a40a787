-- What was loaded without a fault is in a life of the board.
use Rattle.std.proofs.Common.{rules}
use Rattle.psci_fw.proofs.Opened.{life_of_loaded}
use Rattle.psci_fw.proofs.firmware.Firmware.open.Goals as goal

pub is_firmware-requires-clause-life : goal.is_firmware-requires-clause-life
is_firmware-requires-clause-life c =
    life_of_loaded c.deref_mut.result.now.board c.args.words.now c.deref.result.now (search rules)
    (search rules) c.in_ok-load.ensures.fault
