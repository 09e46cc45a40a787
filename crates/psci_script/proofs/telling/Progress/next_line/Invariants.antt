-- What was read so far is ahead, and the bytes of a line are left to read.
use Rattle.std.proofs.Common.{length, ◌-◌}
use Rattle.psci_script.specs.Progress.{Ahead, SameDevices, StaySound, progress_of}
use Rattle.psci_script.proofs.telling.Progress.next_line.Given as goal

abbrev pub invariant-loop-unread : goal.invariant-loop-unread
invariant-loop-unread g l = record {
  ahead : Ahead (progress_of g.S.Source.left g.K.Sink.taken l.fn.self)
      (progress_of g.S.Source.left g.K.Sink.taken l.self);
  devices : SameDevices l.fn.self l.self;
  sound : StaySound g.S.Source.failed g.K.Sink.failed l.fn.self l.self;
}

abbrev pub decreases-loop-unread : goal.decreases-loop-unread
decreases-loop-unread g l = 257 - length l.self.block.now.unread
