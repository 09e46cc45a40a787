-- The sink was only interrupted so far.
use Rattle.std.proofs.Common.{◌≡◌, ◌<◌, ◌≤◌}
use Rattle.std.specs.Io.KnownBytes.{Keeps}
use Rattle.psci_script.proofs.transfer.write_some.Given as goal

abbrev pub invariant-loop : goal.invariant-loop
invariant-loop g l = record {
  taken : Keeps (g.K.Sink.taken l.fn.sink) (g.K.Sink.taken l.sink);
  failed : g.K.Sink.failed l.sink ≡ g.K.Sink.failed l.fn.sink;
  interrupted : l.counter ≤ g.K.Sink.interruptions l.sink;
  few : 0 < l.counter → g.K.Sink.interruptions l.sink ≤ 1000;
}
