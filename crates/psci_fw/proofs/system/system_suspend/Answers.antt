-- The system may be suspended with the deepest ask.
use Rattle.std.proofs.Common.{◌≡◌, sym, ◌∙◌}
use Rattle.psci_board.specs.Board.{height}
use Rattle.psci_state.specs.PowerState.{deepest_of}
use Rattle.psci_fw.proofs.system.system_suspend.Goals as goal

pub sleep-requires-clause-may : goal.sleep-requires-clause-may
sleep-requires-clause-may g c =
    let asked : c.deepest-ask.result ≡ deepest_of (height c.args.state.now.board) =
    rw (c.height.ensures.height, c.board-board.ensures.same) at c.deepest-ask.ensures.value in
    let enters = rw c.board-board.ensures.same at c.may_enter.ensures in
    let limit = rw c.board-board.ensures.same at c.start_limit.ensures in
    record {
      shape = c.deepest-ask.ensures.shape;
      may = rw asked (c.law_may_claim.ensures.system c.args.state.now.board _ c.args.caller.number
          c.args.opening.address c.args.opening.context c.requires.board c.requires.inside
          c.requires.values c.requires.running c.requires.awake
          (sym enters ∙ c.if-not-may_enter.false)
          (sym c.are_others_off.ensures ∙ c.if-not-are_others_off.false)
          (λ e. c.if-known_inside-start_limit.false
          (c.known_inside.ensures ∙ e ∙ sym limit)));
    }
