-- The known starts so far have 32 bits.
use Rattle.std.proofs.Common.{ℕ, ◌<◌, ◌^◌}
use Rattle.psci_tree.specs.Recount.{known_at}
use Rattle.psci_fw_state.proofs.savable.look_at_starts.Given as goal

abbrev pub invariant-loop-number : goal.invariant-loop-number
invariant-loop-number l = (k : ℕ) → k < l.number → known_at l.tree k < 2 ^ 32
