-- The answers to SYSTEM_RESET2 and PSCI_FEATURES are those of their arguments.
use Rattle.std.proofs.Common.{ap, ◌∙◌}
use Rattle.psci_fw_spec.specs.PowerCalls.{returns}
use Rattle.psci_fw_state.specs.Seen.{values_in}
use Rattle.psci_fw.specs.Reactions.{outcome_in}
use Rattle.psci_fw.proofs.Answered.{goes_on}
use Rattle.psci_fw.proofs.smc.function.Goals as goal

pub returns-in-SystemReset2-clause-answer : goal.returns-in-SystemReset2-clause-answer
returns-in-SystemReset2-clause-answer g c =
    rw c.in-SystemReset2.is (c.system_reset2.ensures.answer c.in-SystemReset2.cookie)

pub returns-in-Features-clause-answer : goal.returns-in-Features-clause-answer
returns-in-Features-clause-answer g c =
    let b = c.args.state.now.board in
    let v = values_in c.args.state.now in
    rw c.in-Features.is (record {
      answer = ap (outcome_in b v) c.returns-in-Features.ensures
          ∙ ap returns (rw c.board.ensures.same at c.feature_code.ensures);
      after = rw c.returns-in-Features.ensures (goes_on v c.args.caller.number c.requires.running);
    })
