-- What is left rises, and is apart exactly where all is.
use Rattle.std.proofs.Common.{◌+◌, length, None}
use Rattle.std.specs.Prelude.{◌↔◌}
use Rattle.psci_audit.specs.Merged.{AreApart, RiseAfter, tickets_of}
use Rattle.psci_audit.proofs.tickets.are_apart.Given as goal

abbrev pub invariant-loop-ones : goal.invariant-loop-ones
invariant-loop-ones l = record {
  ones : RiseAfter None (tickets_of l.ones);
  others : RiseAfter None (tickets_of l.others);
  apart : AreApart (tickets_of l.ones) (tickets_of l.others)
      ↔ AreApart (tickets_of l.firmware) (tickets_of l.controller);
}

abbrev pub decreases-loop-ones : goal.decreases-loop-ones
decreases-loop-ones l = length l.ones + length l.others
