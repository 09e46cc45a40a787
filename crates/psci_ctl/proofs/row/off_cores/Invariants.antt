-- There are as many rows as the loop has counted.
use Rattle.std.proofs.Common.{◌≡◌, length}
use Rattle.psci_ctl.proofs.row.off_cores.Given as goal

abbrev pub invariant-loop-core : goal.invariant-loop-core
invariant-loop-core l = length l.rows.items ≡ l._core
