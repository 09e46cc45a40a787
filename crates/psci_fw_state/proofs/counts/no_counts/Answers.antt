-- After the loop no level has a count.
use Rattle.psci_fw_state.proofs.Words.{◌∙◌, arith, length-map, map}
use Rattle.psci_fw_state.proofs.KeptCounts.{none_kept}
use Rattle.psci_fw_state.proofs.counts.no_counts.Goals as goal

pub returns : goal.returns
returns c =
    none_kept c.args.board.now.levels (map (λ v. v.items) c.loop-level.counts.items)
    (length-map c.loop-level.counts.items (λ v. v.items) ∙ omega arith)
    (λ k some top. c.loop-level.invariant.rows k some (omega arith))
