-- The rows so far are the given ones.
use Rattle.std.proofs.Common.{◌≡◌, map, take}
use Rattle.psci_ffi.specs.Machines.{row_given}
use Rattle.psci_ffi.proofs.machine.rows.Given as goal

abbrev pub invariant-loop-row : goal.invariant-loop-row
invariant-loop-row l = l.made.items ≡ map row_given (take l.row-index l.rows)
