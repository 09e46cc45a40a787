-- The bytes from here on are written.
use Rattle.std.proofs.Common.{◌≡◌, ◌+◌, ◌≤◌, ◌++◌, drop, ◌-◌, ◌*◌}
use Rattle.psci_record.specs.Texts.{bytes_text}
use Rattle.psci_record.proofs.frame_text.write_frame.Given as goal

abbrev pub invariant-loop-left : goal.invariant-loop-left
invariant-loop-left l = (l.left ≤ 53)
    × (l.start ≤ l.fn.end)
    × (l.fn.end ≤ l.start + (53 - l.left) * 2)
    × (drop l.start l.room ≡ bytes_text (drop l.left l.frame) ++ drop l.fn.end l.fn.room)

abbrev pub decreases-loop-left : goal.decreases-loop-left
decreases-loop-left l = l.left
