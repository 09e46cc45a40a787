-- What may be granted before a suspend may be granted after it.
use Rattle.std.proofs.Common.{List, sym, subst}
use Rattle.psci_board.specs.Board.{BoardValue}
use Rattle.psci_messages.specs.declared.part.Part.{Part}
use Rattle.psci_fw_spec.specs.Values.{Values}
use Rattle.psci_fw_state.specs.Claims.{IsGrantable}
use Rattle.psci_fw_state.specs.Seen.{values_in}
use Rattle.psci_fw_state.specs.Wishes.{wished_in}
use Rattle.psci_fw_spec.proofs.Always.{suspend_is_claim}
use Rattle.psci_fw.proofs.suspend.sleep.Goals as goal

-- What may be granted of the parts of a suspend, before it, may be granted after it.
pub send_down-requires : goal.send_down-requires
send_down-requires c =
    let board = c.args.state.now.board in
    let granted = (values_in c.args.state.now).granted in
    let core = c.args.core.number in
    let parts : List Part = wished_in c.suspend.new.self core c.in-Ok.wish in
    let before : IsGrantable board core parts granted = record {
      inside = c.requires.call.inside;
      claims = suspend_is_claim board (values_in c.args.state.now) core c.args.ask
          parts c.requires.call.board c.requires.call.inside c.requires.call.values
          c.requires.call.running c.requires.may.shape c.in-Ok.ensures.parts;
      may = c.requires.may.may parts c.in-Ok.ensures.parts;
    } in
    subst (λ (v : Values). IsGrantable c.suspend.new.self.board core parts v.granted)
    (sym c.in-Ok.ensures.after)
    (subst (λ (b : BoardValue). IsGrantable b core parts granted) (sym c.in-Ok.ensures.board)
    before)
