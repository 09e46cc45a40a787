-- The words of the cores so far are written, and the others are as they were.
use Rattle.std.proofs.Common.{◌≡◌, ◌<◌, ◌≤◌, ℕ}
use Rattle.psci_fw.specs.Reactions.{seen}
use Rattle.psci_fw_spec.specs.Changes.{first_status}
use Rattle.psci_fw_spec.specs.Statuses.{added}
use Rattle.psci_status.specs.Lists.{row}
use Rattle.psci_status.specs.Seats.{table_of_writer, written}
use Rattle.psci_status.proofs.writing.write_all.Given as goal

abbrev pub invariant-loop-number : goal.invariant-loop-number
invariant-loop-number l = record {
  table : table_of_writer l.writer ≡ table_of_writer l.initial.writer;
  done : (d : ℕ) → d < l.number → row (written l.writer) d
      ≡ added ((seen l.firmware).status d)
      (added (first_status d) (row (written l.initial.writer) d));
  rest : (d : ℕ) → l.number ≤ d
      → row (written l.writer) d ≡ row (written l.initial.writer) d;
}
