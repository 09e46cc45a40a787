-- The depths of a node stand at its place, in the row of its level.
use Rattle.psci_tree.proofs.Words.{◌∙◌, ◌≡◌, [], ap, arith, Depths, get_or, get_or-map}
use Rattle.psci_tree.proofs.Words.{get_or_default, length, List, map, sym, ℕ}
use Rattle.psci_tree.proofs.grants.depths_at.Goals as goal

pub index-requires : goal.index-requires
index-requires c =
    let same = get_or-map (λ v. v.items) c.args.rows.now c.args.node.level
    c.index-rows-node.result [] c.requires.level in
    omega (
      arith,
      c.requires.place,
      ap length same,
      ap (λ v. length v.items) c.index-rows-node.is,
      c.index-rows-node.result.ok.0,
    )

pub returns : goal.returns
returns c = λ d.
    let level : ℕ = c.args.node.level in
    let place : ℕ = c.args.node.place in
    let rows : List (List Depths) = map (λ v. v.items) c.args.rows.now in
    let same : c.index-rows-node.result.items ≡ get_or rows level [] =
    ap (λ v. v.items) c.index-rows-node.is
    ∙ sym (get_or-map (λ v. v.items) c.args.rows.now level c.index-rows-node.result []
    c.requires.level) in
    c.index.ensures
    ∙ get_or_default c.index-rows-node.result.items place c.index.result.now d
    (omega (arith, c.requires.place, ap length same))
    ∙ ap (λ xs. get_or xs place d) same
