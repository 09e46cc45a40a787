-- No more parts of a Down are applied than there are.
use Rattle.std.proofs.Common.{◌≤◌, length, ap, sym, subst, arith}
use Rattle.psci_messages.specs.Message.{MessageValue, most_applied}
use Rattle.psci_ctl.specs.declared.done.Done.{Done}
use Rattle.psci_ctl.specs.Seen.{seen}
use Rattle.psci_ctl.proofs.Walked.{applied_few}
use Rattle.psci_ctl.proofs.controller.Controller.carry_out.Goals as goal

pub returns-in-Down-clause-most : goal.returns-in-Down-clause-most
returns-in-Down-clause-most c =
    let old = c.args.self.now in
    let ps = c.as_slice.result.now in
    let four : c.take_down.result.applied ≤ 4 =
    omega (
      arith,
      ap (λ (d : Done). d.applied) c.take_down.ensures.done,
      applied_few old.board (seen old) c.message.inside.core.number ps,
      ap length c.as_slice.ensures.parts,
      c.as_slice.ensures.few,
    ) in
    subst (λ (m : MessageValue). c.take_down.result.applied ≤ most_applied m.kind)
    c.message.view_is
    (subst (λ k. c.take_down.result.applied ≤ most_applied k) (sym c.in-Down.is) four)
