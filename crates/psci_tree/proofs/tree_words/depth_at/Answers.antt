-- The word stands behind those of the levels below.
use Rattle.std.proofs.Common.{◌<◌, ◌+◌, List, ℕ, ap, arith, get_or, sym, ◌∙◌}
use Rattle.psci_board.specs.Board.{HasNodeIn}
use Rattle.psci_board.specs.declared.draft.Node.{Node}
use Rattle.psci_tree.specs.Recount.{level_sizes}
use Rattle.psci_tree.proofs.Granted.{size_of_level}
use Rattle.psci_tree.proofs.SavedRows.{place_inside, row_word}
use Rattle.psci_tree.proofs.tree_words.depth_at.Goals as goal

within : (levels : List (List ℕ)) (n : Node) → HasNodeIn levels n
    → n.place < get_or (level_sizes levels) n.level 0
within levels n is = omega (arith, size_of_level levels n.level is.level, is.place)

pub bounds-depths-domains_below : goal.bounds-depths-domains_below
bounds-depths-domains_below c =
    let levels = c.args.tree.now.levels in
    let n = c.args.node in
    omega (
      arith,
      c.requires.count,
      c.domains_below.ensures.count,
      place_inside (level_sizes levels) n.level n.place (within levels n c.requires.domain),
    )

pub returns : goal.returns
returns c =
    let levels = c.args.tree.now.levels in
    let n = c.args.node in
    ap (λ k. get_or c.args.depths.now (k + n.place) 0) c.domains_below.ensures.count
    ∙ sym (row_word (level_sizes levels) c.args.depths.now n.level n.place
    (within levels n c.requires.domain))
