-- One level more keeps that all below it are off.
use Rattle.psci_tree.proofs.Words.{◌+◌, ◌<◌, ◌∙◌, ◌≡◌, [], ap, arith, get_or, get_or-map, gone}
use Rattle.psci_tree.proofs.Words.{Kept, length, length-map, List, map, map-set, set, suc, sym}
use Rattle.psci_tree.proofs.Words.{with_items, with_items_is, ℕ}
use Rattle.psci_tree.proofs.Gone.{gone_all, gone_more, gone_to}
use Rattle.psci_tree.proofs.domains.turn_off.Goals as goal

pub loop-level-preserved : goal.loop-level-preserved
loop-level-preserved c =
    let old : List (List Kept) = map (λ v. v.items) c.args.rows.now in
    let now : List (List Kept) = map (λ v. v.items) c.loop-level.rows in
    let level : ℕ = c.loop-level.level in
    let next : suc level ≡ level + 1 = omega arith in
    let fits : level < length old =
    omega (arith, c.loop-level-test.true, length-map c.args.rows.now (λ v. v.items)) in
    let own = get_or c.loop-level.rows level c.index-rows-level.result in
    let same : get_or now level [] ≡ own.items =
    get_or-map (λ v. v.items) c.loop-level.rows level c.index-rows-level.result []
    (omega (arith, c.loop-level-test.true, c.loop-level.auto.rows)) in
    let filled : (with_items own c.turn_off_row.new.row).items ≡ map gone (get_or now level []) =
    with_items_is own c.turn_off_row.new.row
    (omega (arith, c.turn_off_row.auto.row, c.deref_mut.ensures.len))
    ∙ c.turn_off_row.ensures ∙ ap (map gone) (c.deref_mut.ensures.value ∙ sym same) in
    map-set (λ v. v.items) c.loop-level.rows level (with_items own c.turn_off_row.new.row)
    ∙ ap (set now level) filled
    ∙ ap (λ (rows : List (List Kept)). set rows level (map gone (get_or rows level [])))
    c.loop-level.invariant
    ∙ gone_more (map gone) old level [] fits
    ∙ ap (λ n. gone_to (map gone) n old) next

pub returns : goal.returns
returns c =
    let old : List (List Kept) = map (λ v. v.items) c.args.rows.now in
    c.loop-level.invariant
    ∙ gone_all (map gone) old c.loop-level.level
    (omega (arith, c.loop-level-test.false, length-map c.args.rows.now (λ v. v.items)))
