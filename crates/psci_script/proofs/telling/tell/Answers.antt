-- Where no memory is had for the first room, nothing was done.
use Rattle.psci_script.specs.declared.fault.ReplayFault.TheVariants.{Memory}
use Rattle.psci_script.proofs.Finish.{tells_so, nothing_done}
use Rattle.psci_script.proofs.telling.tell.Goals as goal

pub returns-in_err-block-clause-tells : goal.returns-in_err-block-clause-tells
returns-in_err-block-clause-tells g c =
    let told = g.T.Teller.told c.args.form in
    tells_so told c.from_residual.result Memory _ _ _ _ c.from_residual.ensures
    (nothing_done told (g.S.Source.left c.args.source.now) (g.K.Sink.taken c.args.sink.now)
    c.requires.nothing)

pub returns-in_err-answers-clause-tells : goal.returns-in_err-answers-clause-tells
returns-in_err-answers-clause-tells g c =
    let told = g.T.Teller.told c.args.form in
    tells_so told c.from_residual-in_err-answers.result Memory _ _ _ _
    c.from_residual-in_err-answers.ensures
    (nothing_done told (g.S.Source.left c.args.source.now) (g.K.Sink.taken c.args.sink.now)
    c.requires.nothing)
