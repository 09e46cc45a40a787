-- Each child of the node that the loop is at has this node for its parent.
use Rattle.psci_board.proofs.Terms.{arith, length_push, nat_tests, sum_by_more, take_all}
use Rattle.psci_board.proofs.More.{one_more_child}
use Rattle.psci_board.proofs.level.parents_of.Goals as goal

pub loop-child-preserved : goal.loop-child-preserved
loop-child-preserved c =
    let before = c.loop-child.parents.items in
    let after = c.push.new.self.items in
    let place = c.loop-place.place in
    let kept = c.loop-child.invariant in
    record {
      len = rw c.in_ok-push.ensures.items (omega (arith, length_push before place));
      each = one_more_child c.args.counts.now before after place c.loop-child._child (omega arith)
          (omega arith) kept.len kept.each c.in_ok-push.ensures.items;
    }

pub loop-place-preserved : goal.loop-place-preserved
loop-place-preserved c = grind (arith, nat_tests, sum_by_more)

pub loop-child-init : goal.loop-child-init
loop-child-init c = record { len = omega arith; each = c.loop-place.invariant.each }

pub returns-clause-len : goal.returns-clause-len
returns-clause-len c = grind (arith, nat_tests, take_all)

pub returns-clause-each : goal.returns-clause-each
returns-clause-each c = grind (arith, nat_tests, returns-clause-len)
