-- The history of a port's run is legal and safe, and begins anew after a reboot.
use Rattle.psci_port.specs.Port.{state}
use Rattle.psci_port.proofs.Words.{runs}
use Rattle.psci_port.proofs.Rebooting.{are_rebooted}
use Rattle.psci_port.proofs.Truth.{all_safe, run_legal}
use Rattle.psci_port.proofs.laws.law_port.Goals as goal

pub returns-clause-legal : goal.returns-clause-legal
returns-clause-legal c = λ b acts run so.
    run_legal b (c.law_values.ensures.first b) (c.law_values.ensures.more b)
    (c.law_values-2.ensures.more b) (λ board. (c.law_sizes.ensures b board).some 0) acts run so

pub returns-clause-safe : goal.returns-clause-safe
returns-clause-safe c = λ b acts board run so.
    all_safe b (runs (state b acts)) (λ past legal. c.law_safe.ensures b past board legal)
    (run_legal b (c.law_values.ensures.first b) (c.law_values.ensures.more b)
    (c.law_values-2.ensures.more b) (λ board. (c.law_sizes.ensures b board).some 0) acts run so)

pub returns-clause-anew : goal.returns-clause-anew
returns-clause-anew c = λ b life board low.
    (are_rebooted b (c.law_values.ensures.more b) (c.law_values-2.ensures.more b)
    ((c.law_sizes.ensures b board).some 0) board.some_starts (c.law_values.ensures.first b) life
    low).life
