-- The levels so far are counted anew.
use Rattle.psci_fw_state.proofs.Words.{map, status_at, updated}
use Rattle.psci_fw_state.proofs.KeptCounts.{IsCounted}
use Rattle.psci_fw_state.proofs.counts.recount.Given as goal

abbrev pub invariant-loop-level : goal.invariant-loop-level
invariant-loop-level l =
    IsCounted l.board.levels (updated (status_at l.rows) l.fn.core.number l.fn.before)
    (status_at l.rows) (map (λ v. v.items) l.counts) l.level
