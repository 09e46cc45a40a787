-- The starts of the rows so far were added, each of 32 bits.
use Rattle.std.proofs.Common.{◌≡◌, ◌*◌, ◌^◌, ◌≤◌, take, drop}
use Rattle.std.specs.List.{sum_by}
use Rattle.psci_ctl.specs.declared.row.CoreRow.{CoreRow}
use Rattle.psci_ctl.proofs.loading.starts_in.Given as goal

abbrev pub invariant-loop-row : goal.invariant-loop-row
invariant-loop-row l = record {
  added : l.sum ≡ sum_by (λ (row : CoreRow). row.starts) (take l.row-index
      (take l.fn.span.count (drop l.fn.span.first l.rows)));
  few : l.sum ≤ 2 ^ 32 * l.row-index;
}
