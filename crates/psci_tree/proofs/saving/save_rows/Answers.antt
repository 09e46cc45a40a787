-- The depths of one level more are written.
use Rattle.std.proofs.Common.{◌≡◌, ℕ, ◌<◌, List, [], length, map, get_or, arith, ap, sym, ◌∙◌}
use Rattle.std.proofs.lemmas.List.{get_or-map, length-map}
use Rattle.psci_tree.specs.declared.depths.Depths.{Depths}
use Rattle.psci_tree.specs.DepthRows.{depth_of}
use Rattle.psci_tree.proofs.SavedTrees.{row_next, row_room, row_written}
use Rattle.psci_tree.proofs.saving.save_rows.Goals as goal

pub save_row-requires : goal.save_row-requires
save_row-requires c =
    let rows : List (List Depths) = map (λ v. v.items) c.args.rows.now in
    let k : ℕ = c.loop-level.level in
    let row = c.index-rows-level.result in
    let read : get_or rows k [] ≡ c.deref.result.now =
    get_or-map (λ v. v.items) c.args.rows.now k row [] c.loop-level-test.true
    ∙ ap (λ v. v.items) (sym c.index-rows-level.is)
    ∙ sym c.deref.ensures.value in
    row_room (depth_of c.args.which) rows c.deref.result.now k c.args.start c.loop-level.next
    (length c.loop-level.words)
    (omega (arith, length-map c.args.rows.now (λ v. v.items), c.loop-level-test.true)) read
    c.loop-level.invariant.next c.loop-level.invariant.room

pub loop-level-preserved : goal.loop-level-preserved
loop-level-preserved c =
    let rows : List (List Depths) = map (λ v. v.items) c.args.rows.now in
    let k : ℕ = c.loop-level.level in
    let now = c.loop-level.invariant in
    let row = c.index-rows-level.result in
    let read : get_or rows k [] ≡ c.deref.result.now =
    get_or-map (λ v. v.items) c.args.rows.now k row [] c.loop-level-test.true
    ∙ ap (λ v. v.items) (sym c.index-rows-level.is)
    ∙ sym c.deref.ensures.value in
    let fits : k < length rows =
    omega (arith, length-map c.args.rows.now (λ v. v.items), c.loop-level-test.true) in
    let many : c.len-next.result ≡ length c.deref.result.now =
    omega (arith, c.len-next.ensures, c.deref.ensures.len) in
    rw many (record {
      done = row_written (depth_of c.args.which) rows c.deref.result.now k c.args.start
          c.loop-level.next c.args.words.now c.loop-level.words c.save_row.new.words fits read
          now.done c.save_row.ensures;
      next = row_next (depth_of c.args.which) rows c.deref.result.now k c.args.start
          c.loop-level.next fits read now.next;
      room = omega (arith, now.room, c.save_row.auto.words);
    })
