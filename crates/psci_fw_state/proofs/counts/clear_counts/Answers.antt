-- One level more has no count.
use Rattle.psci_fw_state.proofs.Words.{◌+◌, ◌<◌, ◌∙◌, ◌≡◌, [], ap, arith, get_or, get_or-map}
use Rattle.psci_fw_state.proofs.Words.{length, length-map, List, map, map-set, no_cores, replicate}
use Rattle.psci_fw_state.proofs.Words.{set, StatusCounts, suc, sym, ℕ}
use Rattle.psci_fw_state.proofs.KeptCounts.{blank, cleared_more, cleared_to}
use Rattle.psci_fw_state.proofs.counts.clear_counts.Goals as goal

pub loop-index-preserved : goal.loop-index-preserved
loop-index-preserved c =
    let old : List (List StatusCounts) = map (λ v. v.items) c.args.counts.now in
    let now : List (List StatusCounts) = map (λ v. v.items) c.loop-index.counts in
    let index : ℕ = c.loop-index.index in
    let row = c.index-counts-index.result in
    let next : index + 1 ≡ suc index = omega arith in
    let fits : index < length old = omega (arith, length-map c.args.counts.now (λ v. v.items)) in
    let read : row.items ≡ get_or now index [] =
    ap (λ v. v.items) c.index-counts-index.is ∙ sym (get_or-map (λ v. v.items)
    c.loop-index.counts index row [] (omega (arith, c.loop-index.auto.counts))) in
    let filled : c.fill.new.self.items ≡ blank (get_or now index []) =
    c.fill.ensures.items (λ y h. h)
    ∙ ap (λ n. replicate n no_cores) ((get_or c.loop-index.counts index row).ok.0
    ∙ ap (λ v. length v.items) (sym c.index-counts-index.is) ∙ ap length read) in
    let at = λ (kept : List (List StatusCounts)). set kept index (blank (get_or kept index [])) in
    let written : map (λ v. v.items) (set c.loop-index.counts index c.fill.new.self) ≡ at now =
    map-set (λ v. v.items) c.loop-index.counts index c.fill.new.self
    ∙ ap (set now index) filled in
    written ∙ ap at c.loop-index.invariant ∙ cleared_more old index fits
    ∙ ap (λ n. cleared_to n old) (sym next)
