-- The text is read part by part, and its format at last.
use Rattle.psci_board.proofs.Terms.{◌∙◌, sym}
use Rattle.psci_board.proofs.Fronts.{kept_text, some, none}
use Rattle.psci_board.proofs.tree_text.whole_text.Goals as goal

pub returns-in_err-format : goal.returns-in_err-format
returns-in_err-format c =
    c.from_residual-in_err-format.ensures ∙ sym (kept_text c.args.text.now
    ∙ some _ c.in_ok-tree.ensures ∙ some _ c.in_ok-literal.ensures ∙ some _ c.in_ok-ranges.ensures
    ∙ some _ c.in_ok-literal-2.ensures ∙ some _ c.in_ok-boot.ensures
    ∙ some _ c.in_ok-literal-3.ensures ∙ some _ c.in_ok-starts.ensures
    ∙ some _ c.in_ok-literal-4.ensures ∙ some _ c.in_ok-lives.ensures
    ∙ none _ c.in_err-format.ensures)

pub returns : goal.returns
returns c =
    sym (kept_text c.args.text.now ∙ some _ c.in_ok-tree.ensures ∙ some _ c.in_ok-literal.ensures
    ∙ some _ c.in_ok-ranges.ensures ∙ some _ c.in_ok-literal-2.ensures
    ∙ some _ c.in_ok-boot.ensures ∙ some _ c.in_ok-literal-3.ensures
    ∙ some _ c.in_ok-starts.ensures ∙ some _ c.in_ok-literal-4.ensures
    ∙ some _ c.in_ok-lives.ensures ∙ some _ c.in_ok-format.ensures)
