-- The depths of the levels so far stand from the start on.
use Rattle.std.proofs.Common.{◌≡◌, ◌+◌, ◌≤◌, ◌++◌, flat_map, length, map, take}
use Rattle.psci_tree.specs.DepthRows.{read}
use Rattle.psci_tree.proofs.saving.save_rows.Given as goal

abbrev pub invariant-loop-level : goal.invariant-loop-level
invariant-loop-level l =
    let rows = read l.which (map (λ v. v.items) l.rows) in
    record {
      done : take l.next l.words
          ≡ take l.start l.fn.words ++ flat_map (λ row. row) (take l.level rows);
      next : l.next ≡ l.start + length (flat_map (λ row. row) (take l.level rows));
      room : l.start + length (flat_map (λ row. row) rows) ≤ length l.words;
    }
