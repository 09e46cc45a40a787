-- How a run ended is what is answered, once the last texts were written too.
use Rattle.std.proofs.Common.{subst, sym, Err}
use Rattle.psci_script.specs.declared.fault.ReplayFault.{ReplayFault}
use Rattle.psci_script.specs.Progress.{progress_of}
use Rattle.psci_script.specs.Told.{Tells}
use Rattle.psci_script.proofs.Finish.{finish_part, finish_done, finish_failed, tells_so}
use Rattle.psci_script.proofs.telling.complete.Goals as goal

pub returns-then-is_write_fault-clause-tells : goal.returns-then-is_write_fault-clause-tells
returns-then-is_write_fault-clause-tells g c =
    let s = progress_of g.S.Source.left g.K.Sink.taken c.run_lines-ended.new.progress in
    finish_failed (g.T.Teller.told c.args.form) c.run_lines-ended.result
    (g.S.Source.left c.args.progress.now.source.now)
    (g.K.Sink.taken c.args.progress.now.sink.now) s
    (sym c.if-is_write_fault.ensures) c.run_lines-ended.ensures.runs

pub returns-in_err-write_to-clause-tells : goal.returns-in_err-write_to-clause-tells
returns-in_err-write_to-clause-tells g c =
    let told = g.T.Teller.told c.args.form in
    let s = progress_of g.S.Source.left g.K.Sink.taken c.run_lines-ended.new.progress in
    let first = g.S.Source.left c.args.progress.now.source.now in
    let before = g.K.Sink.taken c.args.progress.now.sink.now in
    let after = g.K.Sink.taken c.write_to.new.sink in
    let w = c.in_err-write_to.ensures {u = tt} in
    tells_so told c.from_residual.result c.in_err-write_to.field-0.0
    first s.left before after c.from_residual.ensures
    (subst (λ (e : ReplayFault). Tells told (Err e) first s.left before after)
    (sym w.gave_up.0)
    (finish_part told c.run_lines-ended.result first before after s w.front.0
    (sym c.if-is_write_fault.ensures) c.run_lines-ended.ensures.runs w.front.1))

pub returns-clause-tells : goal.returns-clause-tells
returns-clause-tells g c =
    let s = progress_of g.S.Source.left g.K.Sink.taken c.run_lines-ended.new.progress in
    finish_done (g.T.Teller.told c.args.form) c.run_lines-ended.result
    (g.S.Source.left c.args.progress.now.source.now)
    (g.K.Sink.taken c.args.progress.now.sink.now) (g.K.Sink.taken c.write_to.new.sink) s
    (sym c.if-is_write_fault.ensures) c.run_lines-ended.ensures.runs
    (c.in_ok-write_to.ensures {u = tt}).written
