-- Level by level, each part is confirmed of the domain on the core's path.
use Rattle.psci_fw_state.proofs.Words.{◌&&◌, ◌<◌, ◌==◌, ◌∙◌, ◌≡◌, ◌≤◌, ap, arith, Bool, cond}
use Rattle.psci_fw_state.proofs.Words.{get_or, granted_at, HasNodeIn, height, is_confirmed_at}
use Rattle.psci_fw_state.proofs.Words.{is_made_at, length, nat_lt, Node, Part, slice_get-get_or}
use Rattle.psci_fw_state.proofs.Words.{Some, subst, sym, true, up, ℕ}
use Rattle.psci_tree.specs.Standing.{on_path as path_node}
use Rattle.psci_tree.specs.Recount.{known}
use Rattle.psci_fw_state.proofs.Confirming.{confirmed_all, confirmed_more}
use Rattle.psci_fw_state.proofs.Granting.{on_board, on_path}
use Rattle.psci_fw_state.proofs.confirm.confirm_parts.Goals.{In-loop-level}
use Rattle.psci_fw_state.proofs.confirm.confirm_parts.Goals as goal

low : (c : In-loop-level) → c.loop-level.level ≤ height c.args.board.now
low c = omega (arith, c.loop-level-test.true, c.min-most.ensures, c.height.ensures.height)

levels : (c : In-loop-level) → c.loop-level.tree.levels ≡ c.args.board.now.levels
levels c = c.loop-level.invariant.levels ∙ c.requires.tree.levels

-- the domain on the core's path of the level that the loop is at
node : (c : In-loop-level) (n : Node)
    → n ≡ path_node c.loop-level.tree.levels c.args.core.number c.loop-level.level
    → n ≡ record {
      level = c.loop-level.level;
      place = up c.args.board.now c.loop-level.level c.args.core.number;
    }
node c n is = on_board c.args.board.now c.loop-level.tree.levels c.args.core.number
    c.loop-level.level n is (levels c)

pub confirm_last-requires-clause-domain : goal.confirm_last-requires-clause-domain
confirm_last-requires-clause-domain c =
    let at = (goal.at.confirm_last-requires-clause-domain c).In-loop-level in
    let b = c.args.board.now in
    subst (HasNodeIn c.loop-level.tree.levels)
    (sym (node at c.on_path-node.result c.on_path-node.ensures)) (on_path b c.loop-level.tree.levels
    c.args.core.number c.loop-level.level (c.law_paths.ensures b c.requires.tree.board)
    (c.loop-level.invariant.levels ∙ c.requires.tree.levels)
    (omega (arith, c.if-core-cores.false, c.cores.ensures.cores)) (low at))

pub confirm_last-requires-clause-known : goal.confirm_last-requires-clause-known
confirm_last-requires-clause-known c =
    c.standing-known.ensures.known ∙ ap (known c.loop-level.tree) (sym c.on_path-node.ensures)

pub loop-level-preserved : goal.loop-level-preserved
loop-level-preserved c =
    let at = (goal.at.loop-level-preserved c).In-loop-level in
    let unused : Part = record { level = 0; depth = 0; generation = 0 } in
    let part : Part = get_or c.args.parts.now c.loop-level.level unused in
    let inside : c.loop-level.level < length c.args.parts.now =
    omega (arith, c.loop-level-test.true, c.min-most.ensures) in
    confirmed_more c.args.board.now c.args.core.number c.args.parts.now c.args.tree.now
    c.loop-level.tree c.confirm_last.new.tree c.loop-level.level (Some part)
    (sym (slice_get-get_or c.args.parts.now c.loop-level.level unused inside))
    c.requires.tree.levels c.loop-level.invariant
    (λ l p. let made : ℕ → Node → Bool = λ k n.
    ((n.level == l) && (n.place == p)) && (nat_lt 0 (granted_at c.loop-level.tree n.level n.place)
    && is_made_at k (Some part)) in
    c.confirm_last.ensures.confirmed l p
    ∙ ap (λ k. cond (made k c.on_path-node.result) true (is_confirmed_at c.loop-level.tree l p))
    (c.standing-known.ensures.known ∙ ap (known c.loop-level.tree) (sym c.on_path-node.ensures))
    ∙ ap (λ (n : Node). cond (made (known c.loop-level.tree n) n) true
    (is_confirmed_at c.loop-level.tree l p))
    (node at c.on_path-node.result c.on_path-node.ensures))
    c.confirm_last.ensures.kept.granted c.confirm_last.ensures.kept.cores
    c.confirm_last.ensures.kept.levels c.confirm_last.ensures.kept.tree

pub returns-clause-confirmed : goal.returns-clause-confirmed
returns-clause-confirmed c = λ l p.
    confirmed_all c.args.board.now c.args.core.number c.args.parts.now c.args.tree.now
    c.loop-level.tree c.loop-level.level c.requires.tree.tree c.requires.tree.levels
    (omega (arith, c.loop-level-test.false, c.min-most.ensures, c.height.ensures.height))
    c.loop-level.invariant l p
