-- The board, the words, the room and the ledger of the test.
use Rattle.psci_status.specs.Seats.{table}
use Rattle.psci_threads_tests.proofs.fresh.entries_of_firmware.Given as goal

abbrev pub ghosts-gathered_firmware-N-Named : goal.ghosts-gathered_firmware-N-Named
ghosts-gathered_firmware-N-Named a = record {
  board = a.board.now;
  table = table a.words;
  room = 2;
}

abbrev pub ghosts-gathered_firmware-N-Ledger : goal.ghosts-gathered_firmware-N-Ledger
ghosts-gathered_firmware-N-Ledger a = record { name = a.blank.name; parts = a.blank.parts }
