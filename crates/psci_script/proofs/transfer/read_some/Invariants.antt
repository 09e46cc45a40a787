-- The source was only interrupted so far.
use Rattle.std.proofs.Common.{◌≡◌, ◌<◌, ◌≤◌}
use Rattle.std.specs.Io.KnownBytes.{Keeps}
use Rattle.psci_script.proofs.transfer.read_some.Given as goal

abbrev pub invariant-loop : goal.invariant-loop
invariant-loop g l = record {
  left : Keeps (g.S.Source.left l.fn.source) (g.S.Source.left l.source);
  failed : g.S.Source.failed l.source ≡ g.S.Source.failed l.fn.source;
  interrupted : l.counter ≤ g.S.Source.interruptions l.source;
  few : 0 < l.counter → g.S.Source.interruptions l.source ≤ 1000;
}
