-- Block after block is read until a line is whole, or the script ends.
use Rattle.std.proofs.Common.{ap, refl, sym, ◌∙◌, ◌<◌, ◌≤◌, length, arith, false, true}
use Rattle.std.proofs.lemmas.Bool.{eqb-true}
use Rattle.psci_script.specs.EventText.{has_line_feed}
use Rattle.psci_script.specs.Progress.{progress_of}
use Rattle.psci_script.proofs.Ahead.{ahead_more, ahead_none, finds_fault, finds_last}
use Rattle.psci_script.proofs.Ahead.{last_extent, reads_as, same_more, sound_more}
use Rattle.psci_script.proofs.telling.Progress.next_line.Goals as goal
use Rattle.psci_script.proofs.telling.Progress.next_line.Goals.{
  else-not-is_empty-via-then-not-is_empty+else-number-gt-MOST_LINES,
}
use Rattle.psci_script.proofs.telling.Progress.next_line.Goals.{
  else-not-is_empty-via-else-not-is_empty,
}

pub loop-unread-init : goal.loop-unread-init
loop-unread-init g c = record {
  ahead = ahead_none _;
  devices = record { source = refl; sink = refl };
  sound = record { source = refl; sink = refl };
}

pub returns-in_err-read_ahead-clause-found : goal.returns-in_err-read_ahead-clause-found
returns-in_err-read_ahead-clause-found g c =
    let part = c.in-Part.ensures {u = tt} in
    let few : length c.loop-unread.self.block.now.unread ≤ 256 =
    omega (arith, ap length c.unread-unread.ensures.bytes, part.0) in
    let k : 0 < length c.loop-unread.self.block.now.unread → c.args.number ≤ 1000000 =
    λ h. elim c.else-not-is_empty.branch [
      | else-not-is_empty-via-then-not-is_empty+else-number-gt-MOST_LINES w ↦ omega arith
      | else-not-is_empty-via-else-not-is_empty w ↦ absurd (omega (
        arith,
        eqb-true (length c.unread-unread.result.now) 0
            (sym c.is_empty.ensures ∙ w.if-not-is_empty.false),
        ap length c.unread-unread.ensures.bytes,
      ))
    ] in
    finds_fault c.from_residual.result c.in_err-read_ahead.field-0.0 c.args.number _
    (progress_of g.S.Source.left g.K.Sink.taken c.loop-unread.self) _
    c.from_residual.ensures
    (c.in_err-read_ahead.ensures {u = tt}).ahead c.loop-unread.invariant.ahead
    (ap has_line_feed (sym c.unread-unread.ensures.bytes) ∙ part.1, few, k)

pub returns-then-not-branch-clause-found : goal.returns-then-not-branch-clause-found
returns-then-not-branch-clause-found g c =
    let part = c.in-Part.ensures {u = tt} in
    let few : length c.loop-unread.self.block.now.unread ≤ 256 =
    omega (arith, ap length c.unread-unread.ensures.bytes, part.0) in
    let k : 0 < length c.loop-unread.self.block.now.unread → c.args.number ≤ 1000000 =
    λ h. elim c.else-not-is_empty.branch [
      | else-not-is_empty-via-then-not-is_empty+else-number-gt-MOST_LINES w ↦ omega arith
      | else-not-is_empty-via-else-not-is_empty w ↦ absurd (omega (
        arith,
        eqb-true (length c.unread-unread.result.now) 0
            (sym c.is_empty.ensures ∙ w.if-not-is_empty.false),
        ap length c.unread-unread.ensures.bytes,
      ))
    ] in
    finds_last c.last_line.result c.args.number _
    (progress_of g.S.Source.left g.K.Sink.taken c.loop-unread.self) _
    (c.last_line.ensures ∙ ap last_extent c.unread.ensures.bytes) c.loop-unread.invariant.ahead
    (reads_as c.in_ok-read_ahead.field-0 false _ _ c.if-not-branch.true
    (c.in_ok-read_ahead.ensures {u = tt}).ahead)
    few (ap has_line_feed (sym c.unread-unread.ensures.bytes) ∙ part.1) k

pub loop-unread-preserved : goal.loop-unread-preserved
loop-unread-preserved g c =
    let r = c.in_ok-read_ahead.ensures {u = tt} in
    record {
      ahead = ahead_more _ (progress_of g.S.Source.left g.K.Sink.taken c.loop-unread.self) _
          c.loop-unread.invariant.ahead
          (reads_as c.in_ok-read_ahead.field-0 true _ _ c.if-not-branch.false
          (c.in_ok-read_ahead.ensures {u = tt}).ahead).0;
      devices = same_more c.loop-unread.invariant.devices c.read_ahead.ensures.devices;
      sound = sound_more _ _ c.loop-unread.invariant.sound r.sound;
    }
