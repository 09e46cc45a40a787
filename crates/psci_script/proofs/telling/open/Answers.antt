-- What stands before the script waits.
use Rattle.std.proofs.Common.{◌∙◌, ap, subst, sym, None}
use Rattle.psci_script.specs.declared.fault.ReplayFault.TheVariants.{Memory}
use Rattle.psci_script.specs.EventText.{Answered, ReadAhead}
use Rattle.psci_script.specs.Progress.{Progress, progress}
use Rattle.psci_script.specs.Told.{EndsBy, Goes}
use Rattle.psci_script.proofs.Steps.{if_err_so, not_opened, opened}
use Rattle.psci_script.proofs.telling.open.Goals as goal

pub returns-in_err-open-clause-err : goal.returns-in_err-open-clause-err
returns-in_err-open-clause-err g c =
    let p = c.args.progress.now in
    let told = g.T.Teller.told c.args.form in
    let first = g.S.Source.left p.source.now in
    let before = g.K.Sink.taken p.sink.now in
    if_err_so c.from_residual.result Memory _ c.from_residual.ensures (
      tt,
      subst (λ (a : Answered). EndsBy told Memory first before
          (progress p.block.now first a before)) (sym (c.in_err-open.ensures {u = tt}).err)
          (subst (λ (s : Progress). EndsBy told Memory first before s) (sym c.requires.fresh)
          (not_opened told first before c.requires.nothing)),
    )

pub returns-clause-ok : goal.returns-clause-ok
returns-clause-ok g c =
    let told = g.T.Teller.told c.args.form in
    let first = g.S.Source.left c.args.progress.now.source.now in
    let before = g.K.Sink.taken c.args.progress.now.sink.now in
    let is = c.in_ok-open.ensures {u = tt} in
    subst (λ (y : ReadAhead). Goes told None 0 first before
    (progress y first c.open.new.answers before))
    (sym (ap (λ (s : Progress). s.block) c.requires.fresh))
    (opened told first before c.open.new.answers is.ok
    (is.events ∙ ap (λ (s : Progress). s.answered.events) c.requires.fresh))
