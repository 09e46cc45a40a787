-- The two domains are the tree's.
use Rattle.std.proofs.Common.{◌<◌, ◌≤◌, ◌+◌, ℕ, List, arith, length, subst, sym}
use Rattle.psci_board.specs.Board.{HasNodeIn, IsTree, size_below}
use Rattle.psci_tree.specs.Standing.{on_path}
use Rattle.psci_tree.proofs.Words.{inside}
use Rattle.psci_tree.proofs.tree_words.is_nested_at.Goals as goal

on : (levels : List (List ℕ)) (core level : ℕ) → IsTree levels → core < size_below levels
    → level ≤ length levels → HasNodeIn levels (on_path levels core level)
on levels core level tree low h =
    record { level = h; place = inside levels level core tree low h }

pub depth_at-above-requires-clause-domain : goal.depth_at-above-requires-clause-domain
depth_at-above-requires-clause-domain c =
    subst (HasNodeIn c.args.tree.now.levels) (sym c.on_path.ensures)
    (on c.args.tree.now.levels c.args.core.number (c.args.level + 1)
    c.height-height.ensures.tree.tree c.requires.core (omega (arith, c.requires.level)))

pub depth_at-requires-clause-domain : goal.depth_at-requires-clause-domain
depth_at-requires-clause-domain c =
    subst (HasNodeIn c.args.tree.now.levels) (sym c.on_path-2.ensures)
    (on c.args.tree.now.levels c.args.core.number c.args.level
    c.height-height.ensures.tree.tree c.requires.core (omega (arith, c.requires.level)))
