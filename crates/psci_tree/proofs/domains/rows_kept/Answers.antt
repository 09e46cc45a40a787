-- One row more, and all of them where the loop ends.
use Rattle.std.proofs.lemmas.List.{map_push}
use Rattle.psci_tree.proofs.Words.{◌++◌, ◌+◌, ◌∷◌, ◌≡◌, [], ap, arith, Kept, length, length-map}
use Rattle.psci_tree.proofs.Words.{length_push, List, map, refl}
use Rattle.psci_tree.proofs.Gone.{rows_off, rows_push}
use Rattle.psci_tree.proofs.domains.rows_kept.Goals as goal

pub loop-level-preserved : goal.loop-level-preserved
loop-level-preserved c =
    let row = c.in_ok-row_kept.field-0 in
    let rows : List (List Kept) = map (λ v. v.items) c.loop-level.rows.items in
    let more : map (λ v. v.items) c.push.new.self.items ≡ rows ++ row.items ∷ [] =
    rw (c.in_ok-push.ensures.items, map_push) refl in
    let long : length rows + 1 ≡ c.loop-level.level =
    omega (
      arith,
      length-map c.loop-level.rows.items (λ v. v.items),
      c.loop-level.invariant.count,
    ) in
    record {
      count = omega (
        arith,
        ap length c.in_ok-push.ensures.items,
        length_push c.loop-level.rows.items row,
        c.loop-level.invariant.count,
      );
      rows = rows_push c.args.board.now.levels rows _ row.items c.loop-level.level long more
          c.in_ok-row_kept.ensures c.loop-level.invariant.rows;
    }

pub returns : goal.returns
returns c =
    rows_off c.args.board.now.levels (map (λ v. v.items) c.loop-level.rows.items)
    (c.law_spans.ensures c.args.board.now.levels c.height-level-end.ensures.board.tree)
    (omega (
      arith,
      length-map c.loop-level.rows.items (λ v. v.items),
      c.loop-level.invariant.count,
      c.loop-level-test.false,
      c.loop-level.auto.level-end,
      c.height-level-end.ensures.height,
    ))
    (λ k some h. c.loop-level.invariant.rows k some (omega (
      arith,
      h,
      c.loop-level-test.false,
      c.height-level-end.ensures.height,
    )))
