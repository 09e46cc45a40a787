-- One row more is filled.
use Rattle.psci_tree.proofs.Words.{◌+◌, ◌<◌, ◌∙◌, ◌≡◌, [], ap, arith, Depths, get_or, get_or-map}
use Rattle.psci_tree.proofs.Words.{length, length-map, List, map, map-set, replicate, suc, sym, ℕ}
use Rattle.psci_tree.proofs.DepthRows.{filled_more}
use Rattle.psci_tree.proofs.grants.fill_rows.Goals as goal

pub loop-level-preserved : goal.loop-level-preserved
loop-level-preserved c =
    let old : List (List Depths) = map (λ v. v.items) c.args.rows.now in
    let now : List (List Depths) = map (λ v. v.items) c.loop-level.rows in
    let level : ℕ = c.loop-level.level in
    let depth : Depths = c.args.depths in
    let row = c.index-rows-level.result in
    let up : level + 1 ≡ suc level = omega arith in
    let fits : level < length old = omega (arith, length-map c.args.rows.now (λ v. v.items)) in
    let read : row.items ≡ get_or now level [] =
    ap (λ v. v.items) c.index-rows-level.is ∙ sym (get_or-map (λ v. v.items) c.loop-level.rows
    level row [] (omega (arith, c.loop-level.auto.rows))) in
    let same : c.fill.new.self.items ≡ replicate (length (get_or now level [])) depth =
    c.fill.ensures.items (λ y h. h)
    ∙ ap (λ n. replicate n depth) ((get_or c.loop-level.rows level row).ok.0
    ∙ ap (λ v. length v.items) (sym c.index-rows-level.is) ∙ ap length read) in
    rw (
      map-set (λ v. v.items) c.loop-level.rows level c.fill.new.self,
      same,
      c.loop-level.invariant,
      up,
    ) (filled_more old level depth fits)
