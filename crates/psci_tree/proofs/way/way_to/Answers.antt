-- One level more of the way, by the number of the child and the place of its parent.
use Rattle.std.proofs.Common.{get_or-set_other, get_or-set_same, below_more, length-set}
use Rattle.psci_tree.proofs.Words.{◌+◌, ◌<◌, ◌∙◌, ◌≡◌, ◌≢◌, [], ap, arith, BoardValue, drop}
use Rattle.psci_tree.proofs.Words.{get_or, group_of, length, List, Node, place_above}
use Rattle.psci_tree.proofs.Words.{place_above-suc, size_below, suc, sym, unwrap_or, ℕ}
use Rattle.psci_board.proofs.Paths.{inside as place_inside}
use Rattle.psci_tree.proofs.Changed.{parent_some}
use Rattle.psci_tree.proofs.way.way_to.Goals.{In-loop-level}
use Rattle.psci_tree.proofs.way.way_to.Goals as goal

-- the domain that the loop is at
at_level : (c : In-loop-level) → c.loop-level.level < length c.args.board.now.levels
at_level c = omega (arith, c.loop-level-test.true, c.height-level-end.ensures.height)

at_place : (c : In-loop-level)
    → c.loop-level.place < size_below (drop c.loop-level.level c.args.board.now.levels)
at_place c = omega (
  arith,
  c.loop-level.invariant.place,
  place_inside c.args.board.now.levels c.loop-level.level c.args.core.number c.requires.tree
      c.requires.core (omega (arith, at_level c)),
)

pub loop-level-preserved : goal.loop-level-preserved
loop-level-preserved c =
    let b : BoardValue = c.args.board.now in
    let levels : List (List ℕ) = b.levels in
    let core : ℕ = c.args.core.number in
    let l : ℕ = c.loop-level.level in
    let n : Node = record { level = l; place = c.loop-level.place } in
    let places : List ℕ = c.loop-level.places in
    let q : ℕ = place_above levels l core in
    let at = goal.at.loop-level-preserved c in
    let fits = at_level at.In-loop-level in
    let place : c.loop-level.place ≡ q = c.loop-level.invariant.place in
    let inside = at_place at.In-loop-level in
    let up : c.unwrap_or-place.result ≡ record {
      level = l + 1;
      place = group_of (get_or levels l []) c.loop-level.place;
    } =
    c.unwrap_or-place.ensures
    ∙ ap (λ o. unwrap_or o n) (c.parent.ensures ∙ parent_some b n fits inside) in
    let next : suc l ≡ l + 1 = omega arith in
    record {
      place = ap (λ (m : Node). m.place) up ∙ ap (group_of (get_or levels l [])) place
          ∙ sym (place_above-suc levels l core fits) ∙ ap (λ j. place_above levels j core) next;
      wide = length-set places l c.loop-level.place ∙ c.loop-level.invariant.wide;
      path = below_more _ _ (λ k h. let ne : k ≢ l = omega arith in
          rw get_or-set_other (c.loop-level.invariant.path k h))
          (let lt : l < length places = omega (
            arith,
            c.loop-level.invariant.wide,
            c.height-level-end.ensures.board.high,
          ) in
          rw get_or-set_same place);
    }
