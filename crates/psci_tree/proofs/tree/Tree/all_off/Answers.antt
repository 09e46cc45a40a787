-- A tree whose parts say that every core is off is one.
use Rattle.psci_tree.proofs.Granted.{all_off_valid}
use Rattle.psci_tree.proofs.tree.Tree.all_off.Goals as goal

pub invariant_of-tree : goal.invariant_of-tree
invariant_of-tree c =
    let rows = c.requires in
    rw (c.in_ok-copy.ensures, c.into_inner-rows.ensures) (record {
      tied = record {
        kept = rw rows.cores rows.kept;
        valid = rw (rows.cores, rows.granted, rows.confirmed)
            (all_off_valid c.args.board.now.levels rows.board.tree rows.board.high);
      };
      lead = rows.ways;
    })
