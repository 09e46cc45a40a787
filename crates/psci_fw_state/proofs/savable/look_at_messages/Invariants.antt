-- The messages of the cores so far are kept.
use Rattle.std.proofs.Common.{◌≡◌, ℕ, ◌<◌, Some, None, get_or}
use Rattle.psci_messages.specs.Message.{MessageValue}
use Rattle.psci_messages.specs.Saved.{IsKept}
use Rattle.psci_fw_state.proofs.savable.look_at_messages.Given as goal

abbrev pub invariant-loop-number : goal.invariant-loop-number
invariant-loop-number l =
    (k : ℕ) (m : MessageValue) → k < l.number → get_or l.slots.cores k None ≡ Some m → IsKept m
