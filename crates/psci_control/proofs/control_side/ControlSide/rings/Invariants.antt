-- Each core so far stands by its word.
use Rattle.std.proofs.Common.{◌<◌, ◌≡◌, ℕ}
use Rattle.psci_control.specs.ControlSide.{heard, values_of}
use Rattle.psci_control.proofs.control_side.ControlSide.rings.Given as goal

abbrev pub invariant-loop-number : goal.invariant-loop-number
invariant-loop-number l = (c : ℕ) → c < l.number → heard l.self c ≡ (values_of l.self).starts c
