-- The parts so far are those of the places so far.
use Rattle.std.proofs.Common.{◌≡◌}
use Rattle.psci_link.specs.Frame.{parts_in}
use Rattle.psci_link.proofs.parts.parts_in.Given as goal

abbrev pub invariant-loop-place : goal.invariant-loop-place
invariant-loop-place l = l.parts ≡ parts_in l.place l.places
