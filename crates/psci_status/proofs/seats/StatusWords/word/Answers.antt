-- The writer reads what it wrote.
use Rattle.std.proofs.Common.{◌<◌, arith}
use Rattle.psci_status.proofs.Steps.{looks}
use Rattle.psci_status.proofs.seats.StatusWords.word.Goals as goal

pub load-requires : goal.load-requires
load-requires c =
    let here = c.requires.here in
    let core : c.args.core.number < c.args.self.now.table.shared.key = omega
    (arith, c.args.self.now.cores, here.core) in
    (here.table, here.core, looks _ _ _ _ _ c.args.writer.now.writes core)
