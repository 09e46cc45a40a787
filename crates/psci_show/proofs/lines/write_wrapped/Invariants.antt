-- No column is further right than the bytes that were written.
use Rattle.std.proofs.Common.{◌≤◌}
use Rattle.psci_show.proofs.lines.write_wrapped.Given as goal

abbrev pub invariant-loop-index : goal.invariant-loop-index
invariant-loop-index l = l.column ≤ l.index
