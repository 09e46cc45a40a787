-- Each line is told, until the script ends or is at fault.
use Rattle.std.proofs.Common.{arith, ℕ, ◌+◌, subst, sym, Some, None, Ok}
use Rattle.psci_script.specs.Progress.{progress_of}
use Rattle.psci_script.specs.Told.{Ended}
use Rattle.psci_script.proofs.Ahead.{same_more, sound_more}
use Rattle.psci_script.proofs.Ends.{ends_well, goes_ahead}
use Rattle.psci_script.proofs.Steps.{finds_as, goes_not, runs_so, way_ahead}
use Rattle.psci_script.proofs.telling.tell_lines.Goals as goal

pub returns-in_err-extent-clause-runs : goal.returns-in_err-extent-clause-runs
returns-in_err-extent-clause-runs g c = λ form first before k.
    let l = c.lines in
    let told = g.T.Teller.told form in
    let i = l.invariant.goes form first before k in
    runs_so told c.from_residual.result c.in_err-extent.field-0.0 _ _ _
    c.from_residual.ensures
    (goes_not told c.in_err-extent.field-0.0 (Some i.run) l.lines first before _ _
    (λ z. absurd (cc)) i.goes (c.in_err-extent.ensures {u = tt}).found)

pub returns-in_err-take_line-clause-runs : goal.returns-in_err-take_line-clause-runs
returns-in_err-take_line-clause-runs g c = λ form first before k.
    let l = c.lines in
    let told = g.T.Teller.told form in
    let f = finds_as c.in_ok-extent.field-0 (Some c.in-Some.extent)
    (l.lines + 1) _ _ c.in-Some.is (c.in_ok-extent.ensures {u = tt}).found in
    runs_so told c.from_residual-in_err-take_line.result c.in_err-take_line.field-0.0 _ _ _
    c.from_residual-in_err-take_line.ensures
    ((c.in_err-take_line.ensures {u = tt}).err.1 form first before
    (way_ahead _ told l.lines first before _ _ f.0 (l.invariant.goes form first before k)))

pub take_line-requires-clause-events : goal.take_line-requires-clause-events
take_line-requires-clause-events g c =
    let l = c.lines in
    let f = finds_as c.in_ok-extent.field-0 (Some c.in-Some.extent)
    (l.lines + 1) _ _ c.in-Some.is (c.in_ok-extent.ensures {u = tt}).found in
    omega (arith, l.invariant.count, l.invariant.few, f.0.events)

pub lines-preserved : goal.lines-preserved
lines-preserved g c =
    let l = c.lines in
    let f = finds_as c.in_ok-extent.field-0 (Some c.in-Some.extent)
    (l.lines + 1) _ _ c.in-Some.is (c.in_ok-extent.ensures {u = tt}).found in
    record {
      few = f.2;
      count = omega (
        arith,
        l.invariant.count,
        f.0.events,
        (c.in_ok-take_line.ensures {u = tt}).ok.0,
      );
      devices = same_more l.invariant.devices (same_more c.next_line.ensures.devices
          c.take_line.ensures.kept.devices);
      sound = sound_more _ _ l.invariant.sound (sound_more _ _
          (c.in_ok-extent.ensures {u = tt}).sound c.take_line.ensures.kept.sound);
      goes = λ form first before k.
          (c.in_ok-take_line.ensures {u = tt}).ok.1 form first before
          (way_ahead _ (g.T.Teller.told form) l.lines first before _ _ f.0
          (l.invariant.goes form first before k));
    }

pub returns-clause-runs : goal.returns-clause-runs
returns-clause-runs g c = λ form first before k.
    let l = c.lines in
    let told = g.T.Teller.told form in
    let t = progress_of g.S.Source.left g.K.Sink.taken c.next_line.new.self in
    let i = l.invariant.goes form first before k in
    let f = finds_as c.in_ok-extent.field-0 None (l.lines + 1) _ t c.in_default.is
    (c.in_ok-extent.ensures {u = tt}).found in
    subst (λ (m : ℕ). Ended told (Ok (record { lines = l.lines; events = m })) first before t)
    (sym c.events.ensures)
    (ends_well told i.run l.lines first before t
    (goes_ahead told (Some i.run) l.lines first before _ t f.0 i.goes) f.1 f.2)
