-- A core that goes off claims what it leaves.
use Rattle.psci_fw_state.specs.Seen.{values_in}
use Rattle.psci_fw.proofs.Answered.{leaving_off, left_may, off_answered}
use Rattle.psci_fw_spec.proofs.Always.{off_is_claim}
use Rattle.psci_fw.proofs.off.cpu_off.Goals as goal

pub send_down-requires : goal.send_down-requires
send_down-requires c =
    let v = values_in c.args.state.now in
    let board = c.args.state.now.board in
    let core = c.args.caller.number in
    let same = leaving_off board _ v _ core _ c.leave.ensures.board c.leave.ensures.after
    c.leaving_wish-wish.ensures in
    record {
      inside = rw c.leave.ensures.board c.requires.inside;
      claims = rw same (off_is_claim board v core c.requires.board
          c.requires.inside c.requires.values c.requires.running);
      may = left_may board _ v _ core _ _ c.leave.ensures.board c.leave.ensures.after same
          (c.law_may_claim.ensures.off board v core c.requires.board c.requires.inside
          c.requires.values c.requires.running c.requires.awake);
    }

pub returns-clause-answer : goal.returns-clause-answer
returns-clause-answer c =
    off_answered c.args.state.now.board _ (values_in c.args.state.now) _ _ c.args.caller.number _ _
    c.leave.ensures.board c.leave.ensures.after c.leaving_wish-wish.ensures
    c.send_down.ensures.answer
    c.send_down.ensures.after
