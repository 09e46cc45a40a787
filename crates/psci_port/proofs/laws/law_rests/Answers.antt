-- Each act that is due leaves less to do; where none is due, the port is at rest.
use Rattle.psci_port.specs.Port.{state}
use Rattle.psci_port.proofs.Lowering.{run_lowers}
use Rattle.psci_port.proofs.Truth.{IsMirror, run_world}
use Rattle.psci_port.proofs.Running.{at_rest, run_kept}
use Rattle.psci_port.proofs.Rows.{run_on, run_valued}
use Rattle.psci_port.proofs.laws.law_rests.Goals as goal

pub returns-clause-lowers : goal.returns-clause-lowers
returns-clause-lowers c = λ b acts act board run so due.
    let mirror : IsMirror b (state b acts) =
    run_world b (c.law_values.ensures.first b) (c.law_values.ensures.more b)
    (c.law_values-2.ensures.more b) (λ has. (c.law_sizes.ensures b has).some 0) acts run so in
    run_lowers b acts act run mirror
    (c.law_never_refused.ensures b (state b acts).past board mirror.legal.0) due

pub returns-clause-rests : goal.returns-clause-rests
returns-clause-rests c = λ b acts board run still.
    at_rest b (state b acts) (run_kept b acts run)
    (run_valued b (c.law_limits.ensures.first b board)
    (λ v f are may. c.law_limits.ensures.change b v f board are may)
    (λ v call are can. c.law_limits.ensures.reply b v call board are can) acts run)
    (run_on b acts run) still
