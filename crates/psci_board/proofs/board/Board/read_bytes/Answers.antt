-- A text without a fault is of a board, and none other is.
use Rattle.psci_board.proofs.Decided.{good_text, no_fault}
use Rattle.psci_board.proofs.Terms.{◌∙◌, ap}
use Rattle.psci_board.specs.Draft.{first_fault}
use Rattle.psci_board.proofs.board.Board.read_bytes.Goals as goal

pub build-requires : goal.build-requires
build-requires c =
    let none = c.in-None.ensures ∙ ap first_fault c.draft.ensures in
    (good_text c.args.text.now c.in-Some.text c.in-Some.ensures none).1

pub returns-in_err-build-in-None : goal.returns-in_err-build-in-None
returns-in_err-build-in-None c =
    let none = c.in-None.ensures ∙ ap first_fault c.draft.ensures in
    let good = (good_text c.args.text.now c.in-Some.text c.in-Some.ensures none).0 in
    no_fault _ _ _ good c.from_residual.ensures.1
