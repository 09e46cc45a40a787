-- Below each domain so far every core is off.
use Rattle.std.proofs.Common.{◌≡◌, ℕ, ◌≤◌, ◌+◌}
use Rattle.psci_messages.specs.Claim.{off_wish}
use Rattle.psci_messages.specs.Looked.{view_of}
use Rattle.psci_osi.proofs.off.highest_off.Given as goal

abbrev pub invariant-loop-level : goal.invariant-loop-level
invariant-loop-level l = record {
  next : l.highest + 1 ≡ l.level;
  off : (level : ℕ) → level ≤ l.highest
      → off_wish l.board (view_of l.tree) l.fn.core.number level ≡ 3;
}
