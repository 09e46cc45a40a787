-- A line is taken and told, or ends the script.
use Rattle.std.proofs.Common.{ℕ, List, take, ◌+◌, subst, sym, refl}
use Rattle.psci_script.specs.EventText.{line_of, ReadAhead}
use Rattle.psci_script.specs.Progress.{LineRefused, progress, progress_of}
use Rattle.psci_script.specs.Told.{IsUnderWay, LineTold}
use Rattle.psci_script.proofs.Steps.{if_err_so, line_fault, line_goes, line_not, room_of}
use Rattle.psci_script.proofs.telling.take_line.Goals as goal

pub returns-in_err-tell_line-clause-err : goal.returns-in_err-tell_line-clause-err
returns-in_err-tell_line-clause-err g c =
    let x = (c.in_err-tell_line.ensures {u = tt}).err in
    let f = c.in_err-tell_line.field-0.0 in
    let e = c.args.extent in
    let s = progress_of g.S.Source.left g.K.Sink.taken c.args.progress.now in
    if_err_so c.from_residual.result f _ c.from_residual.ensures (
      line_fault f (c.args.count + 1) _ x.0,
      λ form first before k. line_not (g.T.Teller.told form) f k.run c.args.count first before
          s.block s.left s.taken s.answered c.tell_line.new.answers e
          (room_of c.unread.ensures.bytes c.unread.ensures.room) c.requires.line.1 c.requires.line.0
          k.goes
          (subst (λ (u : List ℕ). LineRefused f (c.args.count + 1) (line_of (take e.line u)))
          c.unread.ensures.bytes x.0) x.1,
    )

pub returns-clause-ok : goal.returns-clause-ok
returns-clause-ok g c = (
  (c.in_ok-tell_line.ensures {u = tt}).count,
  λ form first before k.
      let e = c.args.extent in
      let s = progress_of g.S.Source.left g.K.Sink.taken c.args.progress.now in
      let told = g.T.Teller.told form in
      let at = g.T.Teller.is_at c.tell_line.new.teller form in
      let x = (c.in_ok-tell_line.ensures {u = tt}).ok form k.run k.at k.goes.events in
      subst (λ (r : ReadAhead). IsUnderWay at told (c.args.count + 1) first before
      (progress r s.left c.tell_line.new.answers s.taken)) (sym c.skip.ensures)
      (line_goes at told (line_of (take e.line s.block.unread)) k.run c.args.count first before
      s.block s.left s.taken s.answered c.tell_line.new.answers e refl c.requires.line.1 k.few
      c.requires.line.0 k.goes
      (subst (λ (u : List ℕ). LineTold at told (line_of (take e.line u)) k.run s.answered
      c.tell_line.new.answers) c.unread.ensures.bytes x)),
)
