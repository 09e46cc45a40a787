-- The levels so far have no count.
use Rattle.psci_fw_state.proofs.Words.{◌≡◌, map}
use Rattle.psci_fw_state.proofs.KeptCounts.{cleared_to}
use Rattle.psci_fw_state.proofs.counts.clear_counts.Given as goal

abbrev pub invariant-loop-index : goal.invariant-loop-index
invariant-loop-index l =
    map (λ v. v.items) l.counts ≡ cleared_to l.index (map (λ v. v.items) l.fn.counts)
