-- The rest rises after the last ticket exactly where all do.
use Rattle.std.proofs.Common.{drop, None}
use Rattle.std.specs.Prelude.{◌↔◌}
use Rattle.psci_audit.specs.Merged.{RiseAfter, tickets_of}
use Rattle.psci_audit.proofs.tickets.rises.Given as goal

abbrev pub invariant-loop-entry : goal.invariant-loop-entry
invariant-loop-entry g l =
    RiseAfter l.last (tickets_of (drop l.entry-index l.entries))
    ↔ RiseAfter None (tickets_of l.entries)
