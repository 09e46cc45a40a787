-- One place is written, in the row of its level.
use Rattle.psci_tree.proofs.Words.{◌∙◌, [], ap, arith, Depths, get_or, get_or-map, length, List}
use Rattle.psci_tree.proofs.Words.{map, map-set, set, sym, with_item, ℕ}
use Rattle.psci_tree.proofs.grants.write.Goals as goal

pub index_mut-requires : goal.index_mut-requires
index_mut-requires c =
    let same = get_or-map (λ v. v.items) c.args.rows.now c.args.node.level
    c.index-rows-node.result [] c.requires.level in
    omega (
      arith,
      c.requires.place,
      ap length same,
      (get_or c.args.rows.now c.args.node.level c.index-rows-node.result).ok.0,
    )

pub returns : goal.returns
returns c =
    let rows : List (List Depths) = map (λ v. v.items) c.args.rows.now in
    let level : ℕ = c.args.node.level in
    let same = get_or-map (λ v. v.items) c.args.rows.now level c.index-rows-node.result []
    c.requires.level in
    map-set (λ v. v.items) c.args.rows.now level (with_item
    (get_or c.args.rows.now level c.index-rows-node.result) c.args.node.place c.args.depths)
    ∙ ap (λ row. set rows level (set row c.args.node.place c.args.depths)) (sym same)
