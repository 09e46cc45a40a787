-- The board, the words, the room and the ledger of the test.
use Rattle.psci_status.specs.Seats.{table}
use Rattle.psci_threads_tests.proofs.named.told.Given as goal

abbrev pub ghosts-tell-N-Named : goal.ghosts-tell-N-Named
ghosts-tell-N-Named g a = record {
  board = a.board.now;
  table = table a.words;
  room = a.room;
}

abbrev pub ghosts-tell-N-Ledger : goal.ghosts-tell-N-Ledger
ghosts-tell-N-Ledger g a = record { name = a.blank.name; parts = a.blank.parts }
