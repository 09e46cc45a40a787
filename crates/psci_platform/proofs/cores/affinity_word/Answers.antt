-- The word of a core has the fields of its domains.
use Rattle.std.proofs.lemmas.Grind.{common_steps}
use Rattle.psci_platform.proofs.Words.{arith}
use Rattle.psci_platform.proofs.Named.{fields}
use Rattle.psci_platform.proofs.cores.affinity_word.Goals as goal

pub returns : goal.returns
returns c =
    let board = c.height-height.ensures.board in
    let f = fields c.args.board.now
    (c.law_parents.ensures c.args.board.now board)
    (c.law_paths.ensures c.args.board.now board)
    (c.law_words.ensures c.args.board.now board)
    c.args.core.number c.requires board.high in
    grind (arith, common_steps, f)
