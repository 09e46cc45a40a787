-- There are as many rows as the loop has counted.
use Rattle.std.proofs.Common.{◌≡◌, length}
use Rattle.psci_ctl.proofs.level.Level.new.Given as goal

abbrev pub invariant-loop-place : goal.invariant-loop-place
invariant-loop-place l = length l.rows.items ≡ l._place
