-- One row more, and all of them where the loop ends.
use Rattle.std.proofs.lemmas.List.{map_push}
use Rattle.psci_tree.proofs.Words.{◌<◌, ◌∙◌, ◌≡◌, ◌≤◌, ap, arith, Depths, filled, get_or, length}
use Rattle.psci_tree.proofs.Words.{level_sizes, List, map, replicate, rows_with_depth, sym, take}
use Rattle.psci_tree.proofs.Words.{take_all, ℕ}
use Rattle.psci_tree.proofs.DepthRows.{filled_depths, rows_more}
use Rattle.psci_tree.proofs.Granted.{size_of_level, length_level_sizes}
use Rattle.psci_tree.proofs.grants.deepest_rows.Goals as goal

pub loop-level-preserved : goal.loop-level-preserved
loop-level-preserved c =
    let levels : List (List ℕ) = c.args.board.now.levels in
    let sizes : List ℕ = level_sizes levels in
    let deepest : Depths = record { granted = 3; confirmed = 3 } in
    let at : ℕ = c.loop-level.level in
    let fits : at ≤ length levels =
    omega (arith, c.loop-level-test.true, c.height-level-end.ensures.height) in
    let row = c.in_ok-vec.field-0 in
    let filled : row.items ≡ replicate (get_or sizes at 0) deepest =
    c.in_ok-vec.ensures.items_if_clones_equal (λ y h. h)
    ∙ ap (λ n. replicate n deepest) (c.nodes.ensures.there fits
    ∙ sym (size_of_level levels at fits)) in
    rw (c.in_ok-push.ensures.items, map_push, filled, c.loop-level.invariant)
    (sym (rows_more sizes at deepest (omega (arith, length_level_sizes levels))))

-- every row is written where the loop ends
abbrev deepest : Depths
deepest = record { granted = 3; confirmed = 3 }

all_rows : (f : Depths → ℕ) (levels : List (List ℕ)) (rows : List (List Depths)) (n : ℕ)
    → rows ≡ filled (take n (level_sizes levels)) deepest → length levels < n
    → map (map f) rows ≡ rows_with_depth (level_sizes levels) (f deepest)
all_rows f levels rows n e h =
    rw (e, take_all n (level_sizes levels) (omega (arith, h, length_level_sizes levels)))
    (filled_depths f (level_sizes levels) deepest)

pub returns-clause-granted : goal.returns-clause-granted
returns-clause-granted c =
    all_rows (λ d. d.granted) c.args.board.now.levels _ c.loop-level.level c.loop-level.invariant
    (omega (arith, c.loop-level-test.false, c.height-level-end.ensures.height))

pub returns-clause-confirmed : goal.returns-clause-confirmed
returns-clause-confirmed c =
    all_rows (λ d. d.confirmed) c.args.board.now.levels _ c.loop-level.level c.loop-level.invariant
    (omega (arith, c.loop-level-test.false, c.height-level-end.ensures.height))
