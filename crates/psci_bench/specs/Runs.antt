-- What a run of threads answers.
use Rattle.std.specs.Prelude.{◌≡◌, ℕ, List, length}
use Rattle.psci_audit.specs.psci_board.Board.{BoardValue}
use Rattle.psci_audit.specs.Merged.{IsFault, IsSound, history_of}
use Rattle.psci_audit.specs.Told.{Tells}
use Rattle.psci_shared.specs.Places.{CtlEntry, FwEntry}
use Rattle.psci_bench.specs.Watches.{AllInHistory}
use Rattle.psci_bench.specs.declared.gathering.BenchFault.{BenchFault}
use Rattle.psci_bench.specs.declared.gathering.BenchFault.TheVariants.{Audit, Gate, Gather, Memory}
use Rattle.psci_bench.specs.declared.gathering.BenchFault.TheVariants.{Threads}
use Rattle.psci_bench.specs.declared.gathering.Threaded.{Threaded}

-- The numbers are those of the entries of each book and of the merged list, which is legal. The
-- world is on the board, and its records tell that list: one for each entry, with the same reply.
-- What each core's thread saw of a core by polls is that one of the core's statuses after the
-- firmware's entries, by its serial.
pub record IsAudited (b : BoardValue) (t : Threaded) : Type 0 where
  pub firmware : t.firmware ≡ length t.trace.firmware.items
  pub controller : t.controller ≡ length t.trace.controller.items
  pub sound : IsSound b t.trace.firmware.items t.trace.controller.items t.audited
  pub board : t.world.board ≡ b
  pub told : Tells b t.world.past (history_of t.trace.firmware.items t.trace.controller.items)
  pub seen : AllInHistory b t.trace.firmware.items t.polls.items

-- the audit found this fault in some trace
unfoldable pub IsFound : BoardValue → BenchFault → Type 0
IsFound b (Audit fault) =
    (fs : List FwEntry) × (cs : List CtlEntry) × IsFault b fs cs fault
IsFound b Gate = Unit {0}
IsFound b Memory = Unit {0}
IsFound b Threads = Unit {0}
IsFound b Gather = Unit {0}
