-- The first line is taken, or ends the script.
use Rattle.std.proofs.Common.{ℕ, List, take, subst, sym, Some, None, Ok, Err, refl}
use Rattle.psci_script.specs.declared.fault.ReplayFault.{ReplayFault}
use Rattle.psci_script.specs.declared.fault.ReplayFault.TheVariants.{Memory}
use Rattle.psci_script.specs.EventText.{ReadAhead}
use Rattle.psci_script.specs.Progress.{BoardRead, progress, progress_of}
use Rattle.psci_script.specs.Told.{EndsBy, IsUnderWay}
use Rattle.psci_script.proofs.Ends.{ends_empty, goes_ahead}
use Rattle.psci_script.proofs.Steps.{begun, board_not, finds_as, goes_not, if_err_so, memory_out}
use Rattle.psci_script.proofs.Steps.{room_of, same_answers}
use Rattle.psci_script.proofs.telling.begin.Goals as goal

pub returns-in_err-extent-clause-err : goal.returns-in_err-extent-clause-err
returns-in_err-extent-clause-err g c =
    let told = g.T.Teller.told c.args.form in
    let e = c.in_err-extent.field-0.0 in
    if_err_so c.from_residual.result e _ c.from_residual.ensures
    (λ first before k. goes_not told e None 0 first before _ _ (λ _. refl) k
    (c.in_err-extent.ensures {u = tt}).found)

pub returns-in_default-clause-err : goal.returns-in_default-clause-err
returns-in_default-clause-err g c = λ first before k.
    let told = g.T.Teller.told c.args.form in
    let s = progress_of g.S.Source.left g.K.Sink.taken c.args.progress.now in
    let t = progress_of g.S.Source.left g.K.Sink.taken c.next_line.new.self in
    let f = finds_as c.in_ok-extent.field-0 None 1 s t c.in_default.is
    (c.in_ok-extent.ensures {u = tt}).found in
    subst (λ (x : ReplayFault). EndsBy told x first before t) (sym c.at.ensures)
    (ends_empty told first before t (goes_ahead told None 0 first before s t f.0 k) f.1 f.2)

pub returns-in_err-board-clause-err : goal.returns-in_err-board-clause-err
returns-in_err-board-clause-err g c =
    let told = g.T.Teller.told c.args.form in
    let s = progress_of g.S.Source.left g.K.Sink.taken c.args.progress.now in
    let t = progress_of g.S.Source.left g.K.Sink.taken c.next_line.new.self in
    let x = c.in-Some.extent in
    let e = c.in_err-board.field-0.0 in
    let f = finds_as c.in_ok-extent.field-0 (Some x) 1 s t c.in-Some.is
    (c.in_ok-extent.ensures {u = tt}).found in
    if_err_so c.from_residual-in_err-board.result e _ c.from_residual-in_err-board.ensures
    (λ first before k. board_not told e first before t x
    (room_of c.unread.ensures.bytes c.unread.ensures.room)
    (goes_ahead told None 0 first before s t f.0 k) f.1
    (subst (λ (u : List ℕ). BoardRead (Err e) (take x.line u)) c.unread.ensures.bytes
    (c.in_err-board.ensures {u = tt})))

pub returns-in_err-teller-clause-err : goal.returns-in_err-teller-clause-err
returns-in_err-teller-clause-err g c =
    let told = g.T.Teller.told c.args.form in
    let s = progress_of g.S.Source.left g.K.Sink.taken c.args.progress.now in
    let t = progress_of g.S.Source.left g.K.Sink.taken c.next_line.new.self in
    let f = finds_as c.in_ok-extent.field-0 (Some c.in-Some.extent) 1 s t c.in-Some.is
    (c.in_ok-extent.ensures {u = tt}).found in
    if_err_so c.from_residual-in_err-teller.result Memory _ c.from_residual-in_err-teller.ensures
    (λ first before k. memory_out told first before
    (progress t.block t.left c.begin.new.answers t.taken)
    (room_of c.unread.ensures.bytes c.unread.ensures.room)
    (same_answers told None 0 first before t.block t.left t.taken t.answered c.begin.new.answers
    (c.in_err-teller.ensures {u = tt}).err (goes_ahead told None 0 first before s t f.0 k)))

pub returns-clause-ok : goal.returns-clause-ok
returns-clause-ok g c = λ first before k.
    let form = c.args.form in
    let told = g.T.Teller.told form in
    let s = progress_of g.S.Source.left g.K.Sink.taken c.args.progress.now in
    let t = progress_of g.S.Source.left g.K.Sink.taken c.next_line.new.self in
    let x = c.in-Some.extent in
    let b = c.in_ok-board.board in
    let is = c.in_ok-teller.ensures {u = tt} in
    let f = finds_as c.in_ok-extent.field-0 (Some x) 1 s t c.in-Some.is
    (c.in_ok-extent.ensures {u = tt}).found in
    let at = g.T.Teller.is_at c.in_ok-teller.teller form in
    subst (λ (y : ReadAhead). IsUnderWay at told 1 first before
    (progress y t.left c.begin.new.answers t.taken)) (sym c.skip.ensures)
    (begun at told b first before t.block t.left t.taken t.answered c.begin.new.answers x is.at
    f.1 (goes_ahead told None 0 first before s t f.0 k)
    (subst (λ (u : List ℕ). BoardRead (Ok b) (take x.line u)) c.unread.ensures.bytes
    (c.in_ok-board.ensures {u = tt}))
    is.told is.events)
