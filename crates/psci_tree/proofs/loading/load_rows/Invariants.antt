-- The levels so far have their depths, and the rest of the depths is that of the others.
use Rattle.std.proofs.Common.{◌≡◌, ◌++◌, ◌≤◌, drop, length, map, sum, take}
use Rattle.std.specs.List.{All}
use Rattle.psci_tree.specs.DepthRows.{confirmed_of, granted_of}
use Rattle.psci_tree.specs.Saved.{rows_of}
use Rattle.psci_tree.proofs.loading.load_rows.Given as goal

abbrev pub invariant-loop-level : goal.invariant-loop-level
invariant-loop-level l =
    let old = map length (map (λ v. v.items) l.fn.rows) in
    let now = map (λ v. v.items) l.rows in
    record {
      sizes : map length now ≡ old;
      granted : take l.level (granted_of now) ++ rows_of (drop l.level old) l.granted
          ≡ rows_of old l.fn.granted;
      confirmed : take l.level (confirmed_of now) ++ rows_of (drop l.level old) l.confirmed
          ≡ rows_of old l.fn.confirmed;
      left : length l.granted ≡ sum (drop l.level old);
      same : length l.confirmed ≡ length l.granted;
      low : All (λ d. d ≤ 3) l.granted;
      sure : All (λ d. d ≤ 3) l.confirmed;
    }
