-- The board line and the lines of the first records are written.
use Rattle.std.proofs.Common.{take}
use Rattle.std.specs.Io.KnownBytes.{Appends}
use Rattle.psci_script.specs.EventText.{script_text}
use Rattle.psci_script.proofs.keeping.write_script.Given as goal

abbrev pub invariant-records : goal.invariant-records
invariant-records g l = Appends (g.W.Write.contents l.fn.to) (g.W.Write.contents l.to)
    (script_text l.fn.board (take l.record-index l.fn.records))
