-- So many lines were taken and told, and the devices are those of the beginning.
use Rattle.std.proofs.Common.{◌-◌, ◌≤◌, ℕ, List, Option}
use Rattle.psci_script.specs.Progress.{SameDevices, StaySound, progress_of}
use Rattle.psci_script.specs.Told.{IsUnderWay}
use Rattle.psci_script.proofs.telling.tell_lines.Given as goal

abbrev pub invariant-lines : goal.invariant-lines
invariant-lines g l = record {
  few : l.lines ≤ 1000000;
  count : l.progress.answers.now.events ≤ l.lines;
  devices : SameDevices l.fn.progress l.progress;
  sound : StaySound g.S.Source.failed g.K.Sink.failed l.fn.progress l.progress;
  goes : (form : _) (first before : Option (List ℕ))
      → IsUnderWay (g.T.Teller.is_at l.fn.teller form) (g.T.Teller.told form) 1 first before
      (progress_of g.S.Source.left g.K.Sink.taken l.fn.progress)
      → IsUnderWay (g.T.Teller.is_at l.teller form) (g.T.Teller.told form) l.lines first before
      (progress_of g.S.Source.left g.K.Sink.taken l.progress);
}

abbrev pub decreases-lines : goal.decreases-lines
decreases-lines g l = 1000000 - l.lines
