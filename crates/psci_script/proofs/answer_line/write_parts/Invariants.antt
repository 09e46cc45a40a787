-- The last parts are written.
use Rattle.std.proofs.Common.{◌≡◌, ◌+◌, ◌-◌, ◌*◌, ◌≤◌, ◌++◌, drop, length}
use Rattle.std.specs.Prelude.{flat_map}
use Rattle.psci_script.specs.Text.{part_text}
use Rattle.psci_script.proofs.answer_line.write_parts.Given as goal

abbrev pub invariant-loop-left : goal.invariant-loop-left
invariant-loop-left l = (l.left ≤ length l.parts)
    × (l.start ≤ l.fn.end)
    × (l.fn.end ≤ l.start + (length l.parts - l.left) * 63)
    × (drop l.start l.room
    ≡ flat_map part_text (drop l.left l.parts) ++ drop l.fn.end l.fn.room)

abbrev pub decreases-loop-left : goal.decreases-loop-left
decreases-loop-left l = l.left
