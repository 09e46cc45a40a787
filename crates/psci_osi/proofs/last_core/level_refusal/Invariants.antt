-- The reason so far is that of the children so far.
use Rattle.std.proofs.Common.{◌≡◌}
use Rattle.psci_messages.specs.Claim.{refusal, granted_less, elsewhere}
use Rattle.psci_messages.specs.Looked.{view_of}
use Rattle.psci_osi.proofs.Gathered.{first_children}
use Rattle.psci_osi.proofs.last_core.level_refusal.Given as goal

abbrev pub invariant-loop-number : goal.invariant-loop-number
invariant-loop-number l =
    l.fault ≡ refusal l.board (view_of l.tree) (granted_less (view_of l.tree) l.fn.depth
    (elsewhere l.fn.own (first_children l.board l.fn.above l.number)))
