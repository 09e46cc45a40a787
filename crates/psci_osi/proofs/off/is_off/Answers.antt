-- Every core below is off where as many are off as stand below.
use Rattle.std.proofs.Common.{◌∙◌, ap, length, sym}
use Rattle.std.proofs.lemmas.List.FromFn.{length-range_with_len}
use Rattle.psci_osi.proofs.Gathered.{off-is, has-span}
use Rattle.psci_osi.proofs.off.is_off.Goals as goal

pub returns-in-Some : goal.returns-in-Some
returns-in-Some c =
    let span_is = has-span c.args.board.now c.args.node c.in-Some.span c.requires.node
    (c.in-Some.ensures {u = tt}) in
    let laws = c.law_spans.ensures c.args.board.now.levels c.requires.valid.tree in
    let counted = off-is c.args.board.now c.args.tree.now c.args.node c.in-Some.span.count
    c.requires.board
    (ap length (laws.cores c.args.node c.requires.node)
    ∙ length-range_with_len _ _ ∙ ap (λ s. s.count) (sym span_is)) in
    rw (c.off.ensures, c.from.ensures) counted
