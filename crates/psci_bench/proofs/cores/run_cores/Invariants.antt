-- The board, the status words, the rooms and the ledgers that the cores run on.
use Rattle.psci_shared.specs.Locked.{no_table}
use Rattle.psci_status.specs.Seats.{table}
use Rattle.psci_bench.proofs.cores.run_cores.Given as goal

abbrev pub ghosts-run-N-Named : goal.ghosts-run-N-Named
ghosts-run-N-Named g a = record {
  board = a.plan.board.now;
  table = table a.makings.words;
  room = a.plan.room;
}

abbrev pub ghosts-run-N-Ledger : goal.ghosts-run-N-Ledger
ghosts-run-N-Ledger g a = record {
  name = a.makings.firmware.name;
  parts = a.makings.firmware.parts;
}

abbrev pub ghosts-run-M-Named : goal.ghosts-run-M-Named
ghosts-run-M-Named g a = record { board = a.plan.board.now; table = no_table; room = a.plan.room }

abbrev pub ghosts-run-M-Ledger : goal.ghosts-run-M-Ledger
ghosts-run-M-Ledger g a = record {
  name = a.makings.controller.name;
  parts = a.makings.controller.parts;
}
