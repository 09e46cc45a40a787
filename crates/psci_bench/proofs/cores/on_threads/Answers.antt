-- What each thread is lent may be shared between threads.
use denote.Exit as Exit
use denote.Param.{param}
use denote.Param.Send.{param_sync, arg_sync}
use Rattle.psci_bench.proofs.Crossing.{captured}
use Rattle.psci_bench.proofs.cores.on_threads.Goals as goal

pub map_vec-requires-sync-F : goal.map_vec-requires-sync-F
map_vec-requires-sync-F g c κs within =
    param_sync 4 _ (arg_sync _ Exit.no _
    (captured (param 0 g.row.N) (param 1 g.row.M) g.N.Named g.M.Named
    g.N.Ledger g.M.Ledger _ _ _ _ _
    (param 2 g.row.R) (param 3 g.row.G) c.type_bounds.sync-R c.type_bounds.sync-G))
