-- One domain more keeps that all below it are off.
use Rattle.psci_tree.proofs.Words.{◌+◌, ◌∙◌, ◌≡◌, [], ap, arith, get_or, gone, Kept, List}
use Rattle.psci_tree.proofs.Words.{set, suc, ℕ}
use Rattle.psci_tree.proofs.Gone.{gone_all, gone_more, gone_to}
use Rattle.psci_tree.proofs.domains.turn_off_row.Goals as goal

abbrev none : Kept
none = record { known = 0; asking = []; cores = 0; active = 0; off = 0 }

pub loop-place-preserved : goal.loop-place-preserved
loop-place-preserved c =
    let old : List Kept = c.args.row.now in
    let now : List Kept = c.loop-place.row in
    let place : ℕ = c.loop-place.place in
    let read : c.never_started.result ≡ gone (get_or now place none) =
    (c.never_started.ensures 0).counted in
    let next : suc place ≡ place + 1 = omega arith in
    ap (set now place) read
    ∙ ap (λ (row : List Kept). set row place (gone (get_or row place none)))
    c.loop-place.invariant
    ∙ gone_more gone old place none c.loop-place-test.true
    ∙ ap (λ n. gone_to gone n old) next

pub returns : goal.returns
returns c =
    c.loop-place.invariant
    ∙ gone_all gone c.args.row.now c.loop-place.place c.loop-place-test.false
