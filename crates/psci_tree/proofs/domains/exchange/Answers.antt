-- One place is exchanged, in the row of its level.
use Rattle.psci_tree.proofs.Words.{◌-◌, ◌∙◌, ◌≡◌, [], ap, arith, get_or, get_or-map, Kept}
use Rattle.psci_tree.proofs.Words.{get_or_default, kept_at, level_kept, List, map, map-set}
use Rattle.psci_tree.proofs.Words.{kept_exchanged}
use Rattle.psci_tree.proofs.Words.{recount, set, sym, with_item}
use Rattle.psci_tree.proofs.domains.exchange.Goals.{After-exchange}
use Rattle.psci_tree.proofs.domains.exchange.Goals as goal

abbrev before : After-exchange → List (List Kept)
before c = map (λ v. v.items) c.args.rows.now

-- the row of its level
row : (c : After-exchange) → level_kept (before c) c.args.node.level
    ≡ (get_or c.args.rows.now (c.args.node.level - 1) c.index-rows-node.result).items
row c = get_or-map (λ v. v.items) c.args.rows.now (c.args.node.level - 1) c.index-rows-node.result
    [] (omega (arith, c.requires.above, c.requires.level))

-- what it kept
was : (c : After-exchange) → kept_at (before c) c.args.node.level c.args.node.place
    ≡ c.index_mut.result.now
was c =
    get_or_default (level_kept (before c) c.args.node.level) c.args.node.place (recount 0 [])
    c.index_mut.result.now c.requires.place
    ∙ ap (λ (xs : List Kept). get_or xs c.args.node.place c.index_mut.result.now) (row c)
    ∙ sym c.index_mut.ensures.value

-- what is kept then
after : (c : After-exchange) → map (λ v. v.items) (set c.args.rows.now (c.args.node.level - 1)
    (with_item (get_or c.args.rows.now (c.args.node.level - 1) c.index-rows-node.result)
    c.args.node.place c.exchange.new.self))
    ≡ set (before c) (c.args.node.level - 1) (set (level_kept (before c) c.args.node.level)
    c.args.node.place c.exchange.new.self)
after c =
    map-set (λ v. v.items) c.args.rows.now (c.args.node.level - 1) (with_item
    (get_or c.args.rows.now (c.args.node.level - 1) c.index-rows-node.result)
    c.args.node.place c.exchange.new.self)
    ∙ ap (λ xs. set (before c) (c.args.node.level - 1) (set xs c.args.node.place
    c.exchange.new.self)) (sym (row c))

pub returns : goal.returns
returns c =
    let at = (goal.at.returns c).After-exchange in
    after at
    ∙ ap (λ k. set (before at) (c.args.node.level - 1) (set
    (level_kept (before at) c.args.node.level) c.args.node.place k))
    (c.exchange.ensures ∙ ap (λ k. kept_exchanged c.args.node.level k c.args.was.now
    c.args.is.now) (sym (was at)))
