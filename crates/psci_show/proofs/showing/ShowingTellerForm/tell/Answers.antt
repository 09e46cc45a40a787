-- An event is told by its row.
use Rattle.std.proofs.Common.{◌∙◌}
use Rattle.psci_show.proofs.Rows.{row_told}
use Rattle.psci_show.proofs.showing.ShowingTellerForm.tell.Goals as goal

pub returns-clause-ok : goal.returns-clause-ok
returns-clause-ok c = λ form run k ev.
    row_told c.args.self.now.form c.args.self.now.run c.happen.new.self c.args.event
    c.in_ok-item.item c.args.line.now c.deref.result.now c.in_ok-row.ensures.0
    c.args.answers.now c.add_text.new.self c.requires.says c.in_ok-item.ensures.ok.0
    c.in_ok-item.ensures.ok.1 c.happen.ensures.board
    (c.deref.ensures.value ∙ c.in_ok-row.ensures.1) c.in_ok-add_text.ensures.ok form run k ev
