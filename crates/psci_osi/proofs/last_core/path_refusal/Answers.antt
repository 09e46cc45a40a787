-- Each level adds the reason of its shallow domains.
use Rattle.std.proofs.Common.{◌≡◌, ◌∙◌, ◌+◌, ℕ, ap, refl, arith}
use Rattle.psci_board.specs.Board.{height}
use Rattle.psci_messages.specs.Looked.{view_of}
use Rattle.psci_messages.specs.Claim.{refusal, shallow}
use Rattle.psci_osi.proofs.Gathered.{shallow_to, path-refusal-more, tree-at}
use Rattle.psci_osi.proofs.last_core.path_refusal.Goals as goal

pub loop-level-init : goal.loop-level-init
unfolding refusal
loop-level-init c = refl

pub loop-level-preserved : goal.loop-level-preserved
loop-level-preserved c =
    let b = c.args.board.now in
    let ws = c.args.tree.now.levels in
    let core : ℕ = c.args.core.number in
    let level : ℕ = c.loop-level.level in
    c.worse-fault.ensures
    ∙ path-refusal-more b (view_of c.args.tree.now) core c.args.ask level c.loop-level.fault
    c.level_refusal-here.result _ _ c.depth.result
    (tree-at b ws core level c.on_path-own.result c.on_path-own.ensures c.requires.board)
    (tree-at b ws core (level + 1) c.on_path-above.result c.on_path-above.ensures
    c.requires.board)
    c.depth.ensures.value c.level_refusal-here.ensures c.loop-level.invariant

pub returns : goal.returns
unfolding shallow
returns c =
    let all : c.loop-level.level ≡ height c.args.board.now =
    omega (
      arith,
      c.loop-level-test.false,
      c.height-level-end.ensures.height,
      c.loop-level.auto.level-end,
    ) in
    c.loop-level.invariant
    ∙ ap (λ n. refusal c.args.board.now (view_of c.args.tree.now)
    (shallow_to c.args.board.now (view_of c.args.tree.now) c.args.core.number c.args.ask n)) all
