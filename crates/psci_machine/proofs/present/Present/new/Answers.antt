-- A new present is that of no records.
use Rattle.std.proofs.Common.{[], subst, sym}
use Rattle.psci_fw.specs.psci_board.Board.{BoardValue}
use Rattle.psci_machine.specs.Seen.{IsPresent, PresentValue}
use Rattle.psci_machine.proofs.Events.{first_present}
use Rattle.psci_machine.proofs.present.Present.new.Goals as goal

pub returns : goal.returns
returns c = first_present c.args.board.now _ c.in_ok-new.ensures.after c.new-2.ensures.items
    c.new-3.ensures.items

pub invariant_of-result : goal.invariant_of-result
invariant_of-result c =
    let p : PresentValue = record {
      machine = c.in_ok-new.field-0;
      messages = c.new-2.result.items;
      acks = c.new-3.result.items;
    } in
    let is = first_present c.args.board.now p c.in_ok-new.ensures.after c.new-2.ensures.items
    c.new-3.ensures.items in record {
      past = [];
      is = subst (λ (b : BoardValue). IsPresent b [] p) (sym is.machine.board) is;
    }
