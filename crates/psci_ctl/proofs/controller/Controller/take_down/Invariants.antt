-- The parts so far were applied.
use Rattle.std.proofs.Common.{◌≡◌}
use Rattle.psci_ctl.proofs.Walked.{IsWalked}
use Rattle.psci_ctl.proofs.controller.Controller.take_down.Given as goal

abbrev pub invariant-loop-part : goal.invariant-loop-part
invariant-loop-part l = record {
  count : l.applied ≡ l.part-index;
  walked : IsWalked l.fn.self l.self l.core.number l.part-index l.parts;
}
