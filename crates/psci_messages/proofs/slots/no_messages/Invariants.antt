-- The slots so far are empty.
use Rattle.std.proofs.Common.{◌≡◌, replicate, None}
use Rattle.psci_messages.proofs.slots.no_messages.Given as goal

abbrev pub invariant-loop : goal.invariant-loop
invariant-loop l = l.slots.items ≡ replicate l.counter None
