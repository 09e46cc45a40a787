-- A call in the slot is answered, and leaves a firmware.
use Rattle.std.proofs.Common.{◌≡◌, ◌≤◌, ◌∙◌, None, refl, rules, subst, sym}
use Rattle.psci_abi.specs.Calls.{request_of}
use Rattle.psci_board.specs.Board.{BoardValue, IsBoard}
use Rattle.psci_fw_spec.specs.declared.call.FwCall.TheVariants.{Smc}
use Rattle.psci_fw_spec.specs.Answer.{answer, call_fault}
use Rattle.psci_fw_spec.specs.Invariant.{AreValues}
use Rattle.psci_fw_spec.specs.Values.{Values}
use Rattle.psci_fw_state.specs.Seen.{StateValue, values_in}
use Rattle.psci_fw.specs.Reactions.{IsFirmware, IsFresh, outcome_in}
use Rattle.psci_fw.proofs.Refused.{called}
use Rattle.psci_fw.proofs.firmware.Firmware.smc_in_slot.Goals as goal

pub returns-in_err-check_caller-clause-answer : goal.returns-in_err-check_caller-clause-answer
unfolding answer
returns-in_err-check_caller-clause-answer g c = search rules

pub returns-clause-answer : goal.returns-clause-answer
unfolding answer
returns-clause-answer g c = search rules

pub invariant_of-self : goal.invariant_of-self
invariant_of-self g c =
    let s : StateValue = c.deref_mut.result.now in
    let b = s.board in
    let v = values_in s in
    let w = values_in c.dispatch.new.state in
    let core = c.args.core.number in
    let o = outcome_in c.dispatch.new.state.board w c.dispatch.result in
    let at = sym c.dispatch.ensures.reaction.board in
    let left = c.dispatch.ensures.after in
    let before : IsFirmware s = subst IsFirmware (sym c.deref_mut.ensures.value) c.self.invariant in
    let fault : call_fault b v core ≡ None =
    rw (c.deref.ensures ∙ sym c.deref_mut.ensures.value) at c.in_ok-check_caller.ensures in
    record {
      board = subst IsBoard at before.board;
      values = subst (λ (x : BoardValue). AreValues x w) at (subst (AreValues b)
          (sym (called b v w core c.args.regs (request_of c.args.regs) o fault refl
          c.dispatch.ensures.answer left))
          (c.law_invariant.ensures.answer b v core (Smc c.args.regs) before.board before.values));
      fresh = subst (λ (x : BoardValue). IsFresh x w) at (subst (IsFresh b) (sym left)
          (c.law_fresh.ensures.call b v core c.args.regs o fault));
      lives = subst (λ (x : BoardValue). w.life ≤ x.lives) at
          (subst (λ (x : Values). x.life ≤ b.lives) (sym left)
          (c.law_lives.ensures.call b v core c.args.regs o before.lives));
    }
