-- Without a count every core is off, and the boot core is then counted.
use Rattle.psci_fw_state.proofs.Words.{map, Off, status_at, updated}
use Rattle.psci_fw_state.proofs.Begun.{off_but_boot, some_below}
use Rattle.psci_fw_state.proofs.KeptCounts.{cleared, same_counts}
use Rattle.psci_fw_state.proofs.counts.reset_counts.Goals as goal

pub recount-requires-clause-inside : goal.recount-requires-clause-inside
recount-requires-clause-inside c = some_below c.args.board.now.levels c.requires.board.tree

pub recount-requires-clause-counts : goal.recount-requires-clause-counts
recount-requires-clause-counts c = record {
  board = c.requires.board;
  count = c.requires.rows.count;
  counts = same_counts c.args.board.now.levels (λ k. Off)
      (updated (status_at c.args.rows.now) 0 Off) _
      (rw c.clear_counts.ensures (cleared c.args.board.now.levels
      (map (λ v. v.items) c.args.counts.now) c.requires.domains))
      (off_but_boot c.args.board.now c.args.rows.now c.requires.board c.requires.rows);
}
