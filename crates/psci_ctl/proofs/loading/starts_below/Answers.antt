-- The cores below a domain are those of its span.
use Rattle.psci_ctl.proofs.Loaded.{below_is, span_inside}
use Rattle.std.proofs.Common.{◌∙◌}
use Rattle.psci_ctl.proofs.loading.starts_below.Goals as goal

pub starts_in-requires : goal.starts_in-requires
starts_in-requires c =
    span_inside c.args.board.now c.args.rows.now c.args.node c.in-Some.span
    (c.law_spans.ensures c.args.board.now.levels c.requires.board.tree) c.requires.node
    c.requires.cores (rw (c.in-Some.is) at c.cores_below.ensures)

pub returns-in-Some : goal.returns-in-Some
returns-in-Some c =
    c.starts_in.ensures
    ∙ below_is c.args.board.now c.args.rows.now c.args.node c.in-Some.span
    (c.law_spans.ensures c.args.board.now.levels c.requires.board.tree) c.requires.node
    c.requires.cores (rw (c.in-Some.is) at c.cores_below.ensures)
