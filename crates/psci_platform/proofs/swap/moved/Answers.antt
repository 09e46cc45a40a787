-- Each step down goes from the parent's other place to the child of the other number.
use Rattle.std.proofs.Common.{get_or}
use Rattle.std.proofs.lemmas.List.{get_or_default}
use Rattle.psci_board.specs.Board.{child}
use Rattle.psci_platform.proofs.Words.{◌+◌, ◌-◌, ◌<◌, ◌∙◌, ◌≡◌, ◌≤◌, ap, arith, BoardValue, length}
use Rattle.psci_platform.proofs.Words.{List, Node, parent, refl, Some, suc, sym, unwrap_or, ℕ}
use Rattle.psci_platform.specs.Swaps.{moved_in, other_number}
use Rattle.psci_platform.proofs.swap.moved.Goals as goal

abbrev none : Node
none = record { level = 0; place = 0 }

-- the way has each of these nodes
same : (nodes : List Node) (n : Node) (top k : ℕ) → length nodes ≡ 4 → top ≤ 3 → k ≤ top
    → get_or nodes k none ≡ get_or nodes k n
same nodes n top k long most h = get_or_default nodes k none n (omega (arith, long, most, h))

-- one step down from the parent's other place
one_down : (b : BoardValue) (boot : ℕ) (n above : Node) (levels : ℕ) → parent b n ≡ Some above
    → moved_in b boot (suc levels) n
    ≡ unwrap_or (child b (moved_in b boot levels above) (other_number b boot above n)) n
one_down b boot n above levels e = rw e refl

pub other_number-number-requires-clause-parent : goal.other_number-number-requires-clause-parent
other_number-number-requires-clause-parent c =
    let nodes : List Node = c.way_up-way.result.nodes in
    let top : ℕ = c.way_up-way.result.top in
    let place : ℕ = top - 1 - c.loop-step.step in
    let below : place < top = omega (arith, c.loop-step-test.true) in
    ap (parent c.args.board.now) (same nodes c.args.node top place c.way_up-way.ensures.long
    c.way_up-way.ensures.most (omega (arith, below)))
    ∙ c.way_up-way.ensures.parents place below
    ∙ ap Some (sym (same nodes c.args.node top (place + 1) c.way_up-way.ensures.long
    c.way_up-way.ensures.most (omega (arith, below))))

pub loop-step-preserved : goal.loop-step-preserved
loop-step-preserved c =
    let b : BoardValue = c.args.board.now in
    let boot : ℕ = c.args.boot.number in
    let n : Node = c.args.node in
    let nodes : List Node = c.way_up-way.result.nodes in
    let top : ℕ = c.way_up-way.result.top in
    let step : ℕ = c.loop-step.step in
    let place : ℕ = top - 1 - step in
    let levels : ℕ = 3 - (top - step) in
    let below : place < top = omega (arith, c.loop-step-test.true) in
    let node : Node = get_or nodes place n in
    let above : Node = get_or nodes (place + 1) n in
    let node_is : get_or nodes place none ≡ node =
    same nodes n top place c.way_up-way.ensures.long c.way_up-way.ensures.most
    (omega (arith, below)) in
    let above_is : get_or nodes (place + 1) none ≡ above =
    same nodes n top (place + 1) c.way_up-way.ensures.long c.way_up-way.ensures.most
    (omega (arith, below)) in
    let next : top - step ≡ place + 1 = omega (arith, c.loop-step-test.true) in
    let here : place ≡ top - (step + 1) = omega (arith, c.loop-step-test.true) in
    let more : suc levels ≡ 3 - (top - (step + 1)) =
    omega (arith, c.loop-step-test.true, c.way_up-way.ensures.most) in
    let number : c.other_number-number.result ≡ other_number b boot above node =
    c.other_number-number.ensures
    ∙ ap (other_number b boot (get_or nodes (place + 1) none)) node_is
    ∙ ap (λ m. other_number b boot m node) above_is in
    let other : c.loop-step.other ≡ moved_in b boot levels above =
    c.loop-step.invariant ∙ ap (λ j. moved_in b boot levels (get_or nodes j n)) next in
    let child_is : c.child.result
    ≡ child b (moved_in b boot levels above) (other_number b boot above node) =
    c.child.ensures ∙ ap (λ m. child b m c.other_number-number.result) other
    ∙ ap (child b (moved_in b boot levels above)) number in
    c.unwrap_or-other.ensures ∙ ap (λ o. unwrap_or o (get_or nodes place none)) child_is
    ∙ ap (unwrap_or (child b (moved_in b boot levels above) (other_number b boot above node)))
    node_is
    ∙ sym (one_down b boot node above levels (c.way_up-way.ensures.parents place below))
    ∙ ap (λ l. moved_in b boot l node) more
    ∙ ap (λ j. moved_in b boot (3 - (top - (step + 1))) (get_or nodes j n)) here
