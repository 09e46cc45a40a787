-- The letters and the lowest levels are counted, each level with 65,535 domains at most.
use Rattle.std.proofs.Common.{◌+◌, ◌*◌, ◌≤◌}
use Rattle.psci_show.proofs.lines.row_width.Given as goal

abbrev pub invariant-loop-level : goal.invariant-loop-level
invariant-loop-level l = l.width ≤ 65535 + l.level * 196606
