-- The next order is written, and the rest is left; at the end nothing is.
use Rattle.std.proofs.Common.{◌∙◌, List, ap, drop, sym}
use Rattle.psci_control.specs.ControlSide.{board_of, values_of}
use Rattle.psci_control.specs.declared.order.Order.{Order}
use Rattle.psci_ffi.specs.Controls.{with_orders}
use Rattle.psci_ffi.proofs.ControlDone.{all_written, next_written}
use Rattle.psci_ffi.proofs.control_calls.write_orders.Goals as goal

pub loop-order-preserved : goal.loop-order-preserved
loop-order-preserved c =
    let b = board_of c.args.side.now in
    let v = values_of c.args.side.now in
    ap (λ (l : List Order). with_orders b v l c.write_order.new.orders) c.next.ensures.rest
    ∙ ap (with_orders b v (drop 1 c.loop-order.due)) c.write_order.ensures
    ∙ next_written b v c.loop-order.due c.in-Some.order c.loop-order.orders
    (sym c.in-Some.ensures.first)
    ∙ c.loop-order.invariant

pub returns : goal.returns
returns c =
    let b = board_of c.args.side.now in
    let v = values_of c.args.side.now in
    sym (all_written b v c.loop-order.due c.loop-order.orders c.next.result c.next.ensures.first
    c.in_default.not-Some)
    ∙ c.loop-order.invariant
    ∙ ap (with_orders b v c.args.due) c.write_none.ensures
