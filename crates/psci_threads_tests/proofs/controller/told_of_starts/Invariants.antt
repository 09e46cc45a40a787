-- The board, the words, the room and the ledger of the test.
use Rattle.psci_shared.specs.Locked.{no_table}
use Rattle.psci_threads_tests.proofs.controller.told_of_starts.Given as goal

abbrev pub ghosts-tell_of_starts-N-Named : goal.ghosts-tell_of_starts-N-Named
ghosts-tell_of_starts-N-Named g a = record { board = a.board.now; table = no_table; room = 2 }

abbrev pub ghosts-tell_of_starts-N-Ledger : goal.ghosts-tell_of_starts-N-Ledger
ghosts-tell_of_starts-N-Ledger g a = record { name = a.blank.name; parts = a.blank.parts }
