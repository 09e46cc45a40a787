-- Power goes under no core that executes.
use Rattle.psci_port.proofs.Power.{run_none_cut}
use Rattle.psci_port.proofs.laws.law_power.Goals as goal

pub returns : goal.returns
returns c = λ b acts board run.
    run_none_cut b (c.law_paths.ensures b board)
    (λ v call can. c.law_replies.ensures b v call board can) acts run
