-- The parts so far are those of the levels below.
use Rattle.psci_coord.specs.Wish.{wanted}
use Rattle.psci_messages.specs.Looked.{view_of}
use Rattle.psci_coord.proofs.Climbing.{IsClimbedTo}
use Rattle.psci_coord.proofs.claim.climb.Given as goal

abbrev pub invariant-loop-level : goal.invariant-loop-level
invariant-loop-level l =
    IsClimbedTo l.board (view_of l.tree) l.fn.core.number
    (wanted l.board (view_of l.tree) l.fn.core.number l.fn.wish) l.level l.parts
