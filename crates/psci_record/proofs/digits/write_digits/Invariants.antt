-- The last digits are written.
use Rattle.std.proofs.Common.{◌-◌, ◌+◌, ◌≤◌, drop}
use Rattle.psci_record.proofs.RadixDigits.{IsUnderWay}
use Rattle.psci_record.proofs.digits.write_digits.Given as goal

abbrev pub invariant-loop-left : goal.invariant-loop-left
invariant-loop-left l = (l.left ≤ l.places)
    × IsUnderWay l.fn.radix l.fn.number (drop l.fn.end l.fn.room) l.left l.rest
    (drop (l.fn.end - l.places + l.left) l.room)

abbrev pub decreases-loop-left : goal.decreases-loop-left
decreases-loop-left l = l.left
