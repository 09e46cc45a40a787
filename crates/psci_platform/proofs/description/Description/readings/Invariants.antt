-- The rows so far are read.
use Rattle.std.proofs.Common.{take}
use Rattle.psci_platform.proofs.Words.{◌≡◌, map, reading_of}
use Rattle.psci_platform.proofs.description.Description.readings.Given as goal

abbrev pub invariant-loop-row : goal.invariant-loop-row
invariant-loop-row l =
    l.readings.items ≡ map (reading_of l.self l.format) (take l.row-index l.self.rows)
