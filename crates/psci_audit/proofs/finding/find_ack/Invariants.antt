-- It is none of those from here on.
use Rattle.std.proofs.Common.{◌≡◌, ℕ, ◌≤◌, length, Some}
use Rattle.std.specs.Prelude.{slice_get}
use Rattle.psci_audit.proofs.finding.find_ack.Given as goal

abbrev pub invariant-loop-left : goal.invariant-loop-left
invariant-loop-left l = record {
  within : l.left ≤ length l.acks;
  none : (k : ℕ) → l.left ≤ k → slice_get l.acks k ≡ Some l.ack → ⊥;
}

abbrev pub decreases-loop-left : goal.decreases-loop-left
decreases-loop-left l = l.left
