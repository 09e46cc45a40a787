-- The reason so far is that of the levels so far.
use Rattle.std.proofs.Common.{◌≡◌}
use Rattle.psci_messages.specs.Claim.{refusal}
use Rattle.psci_messages.specs.Looked.{view_of}
use Rattle.psci_osi.proofs.Gathered.{shallow_to}
use Rattle.psci_osi.proofs.last_core.path_refusal.Given as goal

abbrev pub invariant-loop-level : goal.invariant-loop-level
invariant-loop-level l =
    l.fault ≡ refusal l.board (view_of l.tree)
    (shallow_to l.board (view_of l.tree) l.fn.core.number l.fn.ask l.level)
