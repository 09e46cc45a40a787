-- The last digits are written.
use Rattle.std.proofs.Common.{◌-◌, ◌+◌, ◌≤◌, drop}
use Rattle.psci_script.proofs.KeptLines.{IsUnderWay}
use Rattle.psci_script.proofs.answer_line.write_hexadecimal_digits.Given as goal

abbrev pub invariant-loop-left : goal.invariant-loop-left
invariant-loop-left l = (l.left ≤ 16)
    × IsUnderWay l.fn.number (drop l.fn.end l.fn.room) l.left l.rest
    (drop (l.fn.end - 16 + l.left) l.room)

abbrev pub decreases-loop-left : goal.decreases-loop-left
decreases-loop-left l = l.left
