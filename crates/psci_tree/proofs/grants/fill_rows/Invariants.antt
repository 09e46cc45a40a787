-- The rows so far are filled, and the others are as they were.
use Rattle.psci_tree.proofs.Words.{◌++◌, ◌≡◌, drop, filled, length, map, take}
use Rattle.psci_tree.proofs.grants.fill_rows.Given as goal

abbrev pub invariant-loop-level : goal.invariant-loop-level
invariant-loop-level l =
    let old = map (λ v. v.items) l.fn.rows in
    map (λ v. v.items) l.rows
    ≡ filled (map length (take l.level old)) l.depths ++ drop l.level old
