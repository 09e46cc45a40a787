-- What is written so far, and the orders that are left, give all.
use Rattle.std.proofs.Common.{◌≡◌, length}
use Rattle.psci_control.specs.ControlSide.{board_of, values_of}
use Rattle.psci_ffi.specs.Controls.{with_orders}
use Rattle.psci_ffi.proofs.control_calls.write_orders.Given as goal

abbrev pub invariant-loop-order : goal.invariant-loop-order
invariant-loop-order l = with_orders (board_of l.side) (values_of l.side) l.due l.orders
    ≡ with_orders (board_of l.side) (values_of l.side) l.initial.due l.initial.orders

abbrev pub decreases-loop-order : goal.decreases-loop-order
decreases-loop-order l = length l.due
