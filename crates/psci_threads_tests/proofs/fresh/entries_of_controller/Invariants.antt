-- The board, the words, the room and the ledger of the test.
use Rattle.psci_shared.specs.Locked.{no_table}
use Rattle.psci_threads_tests.proofs.fresh.entries_of_controller.Given as goal

abbrev pub ghosts-gathered_controller-N-Named : goal.ghosts-gathered_controller-N-Named
ghosts-gathered_controller-N-Named a = record { board = a.board.now; table = no_table; room = 2 }

abbrev pub ghosts-gathered_controller-N-Ledger : goal.ghosts-gathered_controller-N-Ledger
ghosts-gathered_controller-N-Ledger a = record { name = a.blank.name; parts = a.blank.parts }
