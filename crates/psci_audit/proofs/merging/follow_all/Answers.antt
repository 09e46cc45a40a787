-- Entry by entry.
use Rattle.std.proofs.Common.{refl, ap, sym, ◌∙◌, arith}
use Rattle.psci_audit.specs.Merged.{merged}
use Rattle.psci_audit.proofs.SoFar.{after, asked_next, begin, controlled_next, ended, parts}
use Rattle.psci_audit.proofs.SoFar.{stopped, told}
use Rattle.psci_audit.proofs.merging.follow_all.Goals as goal

pub loop-place-init : goal.loop-place-init
loop-place-init c = record {
  between = record {
    board = refl;
    so_far = begin c.args.world.now.board (merged c.args.firmware.now c.args.controller.now)
        c.args.world.now.past c.requires;
  };
  left = omega arith;
}

pub loop-place-preserved : goal.loop-place-preserved
loop-place-preserved c =
    let inv = c.loop-place.invariant in
    elim c.if-is_asked_first.branch [
      | goal.then-is_asked_first+in-len1-up+in_default-fault_of w ↦
          let then = after w.follow_firmware.result w.world-is (ap (λ x. x.now) w.asked-is)
          (ap (λ x. x.now) w.controlled-is) inv.between inv.left w.follow_firmware.ensures.board
          (asked_next (parts c.loop-place.asked.now _ w.in-len1-up.len_at_least w.entry-item.is)
          (sym c.is_asked_first.ensures ∙ w.if-is_asked_first.true)) w.follow_firmware.ensures.step
          (w.in_default-fault_of.ensures {u = tt}) in
          record { between = then.0; left = then.1 }
      | goal.else-is_asked_first+in-len1-up-controlled+in_default-fault_of-2 w ↦
          let then = after w.follow_controller.result w.world-is (ap (λ x. x.now) w.asked-is)
          (ap (λ x. x.now) w.controlled-is) inv.between inv.left w.follow_controller.ensures.board
          (controlled_next (parts c.loop-place.controlled.now _
          w.in-len1-up-controlled.len_at_least w.entry-item-else-is_asked_first.is)
          (sym c.is_asked_first.ensures ∙ w.if-is_asked_first.false))
          w.follow_controller.ensures.step (w.in_default-fault_of-2.ensures {u = tt}) in
          record { between = then.0; left = then.1 }
    ]

pub returns-in-Some-clause-judged : goal.returns-in-Some-clause-judged
returns-in-Some-clause-judged c =
    stopped c.follow_firmware.new.world c.follow_firmware.result c.in-Some.fault
    c.loop-place.invariant.between
    (asked_next (parts c.loop-place.asked.now _ c.in-len1-up.len_at_least c.entry-item.is)
    (sym c.is_asked_first.ensures ∙ c.if-is_asked_first.true)) c.follow_firmware.ensures.step
    c.in-Some.ensures

pub returns-in-Some-fault_of-clause-judged : goal.returns-in-Some-fault_of-clause-judged
returns-in-Some-fault_of-clause-judged c =
    stopped c.follow_controller.new.world c.follow_controller.result c.in-Some-fault_of.fault
    c.loop-place.invariant.between
    (controlled_next (parts c.loop-place.controlled.now _
    c.in-len1-up-controlled.len_at_least c.entry-item-else-is_asked_first.is)
    (sym c.is_asked_first.ensures ∙ c.if-is_asked_first.false)) c.follow_controller.ensures.step
    c.in-Some-fault_of.ensures

pub returns-clause-judged : goal.returns-clause-judged
returns-clause-judged c =
    ended c.loop-place.invariant.between
    (omega (arith, c.loop-place.invariant.left, c.loop-place-test.false))
    (omega (arith, c.loop-place.invariant.left, c.loop-place-test.false, c.loop-place.auto))

pub returns-clause-board : goal.returns-clause-board
returns-clause-board c = c.loop-place.invariant.between.board

pub returns-clause-told : goal.returns-clause-told
returns-clause-told c =
    told c.loop-place.invariant.between
    (omega (arith, c.loop-place.invariant.left, c.loop-place-test.false))
