-- The counts of one domain are those with the core's new status.
use Rattle.std.specs.Vec.{with_item}
use Rattle.psci_fw_state.proofs.Words.{◌-◌, ◌<◌, ◌∙◌, ◌≡◌, [], ap, arith, counts_at, get_or}
use Rattle.psci_fw_state.proofs.Words.{get_or-map, get_or_default, length, List, map, map-set}
use Rattle.psci_fw_state.proofs.Words.{no_cores, recounted, set, StatusCounts, sym, ℕ}
use Rattle.psci_fw_state.proofs.counts.recount_domain.Goals as goal

pub returns : goal.returns
returns c =
    let kept : List (List StatusCounts) = map (λ v. v.items) c.args.counts.now in
    let level : ℕ = c.args.node.level - 1 in
    let place : ℕ = c.args.node.place in
    let row = c.index-counts-node.result in
    let there : level < length c.args.counts.now =
    omega (arith, c.requires.above, c.requires.level) in
    let same = get_or-map (λ v. v.items) c.args.counts.now level row [] there in
    let inside : place < length (get_or c.args.counts.now level row).items =
    omega (arith, c.requires.place, ap length same) in
    let read : c.index_mut.result.now ≡ counts_at kept c.args.node.level place =
    c.index_mut.ensures.value
    ∙ get_or_default (get_or c.args.counts.now level row).items place c.index_mut.result.now
    no_cores inside
    ∙ ap (λ (r : List StatusCounts). get_or r place no_cores) (sym same) in
    map-set (λ v. v.items) c.args.counts.now level
    (with_item (get_or c.args.counts.now level row) place c.recount.new.self)
    ∙ ap (λ (r : List StatusCounts). set kept level (set r place c.recount.new.self)) (sym same)
    ∙ ap (λ (k : StatusCounts). set kept level (set (get_or kept level []) place k))
    (c.recount.ensures ∙ ap (λ k. recounted k c.args.before c.args.after) read)
