-- The domain so far is the other place of the one on the way.
use Rattle.psci_platform.proofs.Words.{◌-◌, ◌≡◌}
use Rattle.std.proofs.Common.{get_or}
use Rattle.psci_platform.specs.Swaps.{moved_in}
use Rattle.psci_platform.proofs.swap.moved.Given as goal

abbrev pub invariant-loop-step : goal.invariant-loop-step
invariant-loop-step l = l.other
    ≡ moved_in l.board l.fn.boot.number (3 - (l.way.top - l.step))
    (get_or l.way.nodes (l.way.top - l.step) l.fn.node)
