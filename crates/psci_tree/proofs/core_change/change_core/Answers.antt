-- Level by level, the domain on the core's path keeps what is so now.
use Rattle.psci_tree.proofs.Words.{◌<◌, ◌^◌, ◌≡◌, ◌≤◌, AreSmall, arith, CoreState, inside, IsTree}
use Rattle.psci_tree.proofs.Words.{length}
use Rattle.psci_tree.proofs.Words.{List, map, size_below, SpanLaws, ℕ}
use Rattle.psci_tree.proofs.Levels.{all_changed, changed_more, may_at, none_changed}
use Rattle.psci_tree.proofs.Levels.{OneChanged, small_set}
use Rattle.psci_tree.proofs.core_change.change_core.Goals as goal

one : (levels : List (List ℕ)) (old : List CoreState) (core : ℕ) (s : CoreState)
    → SpanLaws levels → IsTree levels → core < size_below levels → length old ≡ size_below levels
    → AreSmall old → s.known ≤ 2 ^ 32 → OneChanged levels old core s
one levels old core s laws tree there count small known = record {
  laws = laws;
  tree = tree;
  there = there;
  count = count;
  small = small_set old core s small known;
}

pub loop-level-init : goal.loop-level-init
loop-level-init c = none_changed c.args.board.now.levels c.args.cores.now _ _ c.requires.kept

pub exchange-requires-clause-place : goal.exchange-requires-clause-place
exchange-requires-clause-place c =
    let levels : List (List ℕ) = c.args.board.now.levels in
    let level : ℕ = c.loop-level.level in
    let top : level ≤ length levels =
    omega (arith, c.if-level-height.false, c.height.ensures.height) in
    omega (
      arith,
      c.requires.lead.way.places level top,
      inside levels level c.args.core.number c.requires.lead.tree c.requires.lead.core top,
      c.loop-level.invariant.shape.domains level c.loop-level.auto.level top,
    )

pub exchange-requires-clause-may : goal.exchange-requires-clause-may
exchange-requires-clause-may c =
    let levels : List (List ℕ) = c.args.board.now.levels in
    let level : ℕ = c.loop-level.level in
    let top : level ≤ length levels =
    omega (arith, c.if-level-height.false, c.height.ensures.height) in
    let known : c.args.state.now.known ≤ 2 ^ 32 = omega arith in
    rw (c.requires.lead.way.places level top) (may_at levels c.args.cores.now c.args.core.number
    c.args.state.now (one levels c.args.cores.now c.args.core.number c.args.state.now
    (c.law_spans.ensures levels c.requires.lead.tree) c.requires.lead.tree c.requires.lead.core
    c.requires.count c.requires.kept.small known) (map (λ v. v.items) c.loop-level.rows) level
    c.loop-level.auto.level top
    (inside levels level c.args.core.number c.requires.lead.tree c.requires.lead.core top)
    c.loop-level.invariant c.index-cores-number.result c.index-cores-number.is known)

pub loop-level-preserved : goal.loop-level-preserved
loop-level-preserved c =
    let levels : List (List ℕ) = c.args.board.now.levels in
    let level : ℕ = c.loop-level.level in
    let top : level ≤ length levels =
    omega (arith, c.if-level-height.false, c.height.ensures.height) in
    let known : c.args.state.now.known ≤ 2 ^ 32 = omega arith in
    rw (c.exchange.ensures, c.requires.lead.way.places level top) (changed_more levels
    c.args.cores.now c.args.core.number c.args.state.now (one levels c.args.cores.now
    c.args.core.number c.args.state.now (c.law_spans.ensures levels c.requires.lead.tree)
    c.requires.lead.tree c.requires.lead.core c.requires.count c.requires.kept.small known)
    (map (λ v. v.items) c.loop-level.rows) level c.loop-level.auto.level top
    (inside levels level c.args.core.number c.requires.lead.tree c.requires.lead.core top)
    c.loop-level.invariant c.index-cores-number.result c.index-cores-number.is)

pub returns-then-level-height-clause-kept : goal.returns-then-level-height-clause-kept
returns-then-level-height-clause-kept c =
    let known : c.args.state.now.known ≤ 2 ^ 32 = omega arith in
    all_changed c.args.board.now.levels c.args.cores.now _ _ c.loop-level.level
    (small_set c.args.cores.now c.args.core.number c.args.state.now c.requires.kept.small known)
    (omega (arith, c.if-level-height.true, c.height.ensures.height)) c.loop-level.invariant

pub returns-after-loop-level-clause-kept : goal.returns-after-loop-level-clause-kept
returns-after-loop-level-clause-kept c =
    let known : c.args.state.now.known ≤ 2 ^ 32 = omega arith in
    all_changed c.args.board.now.levels c.args.cores.now _ _ c.loop-level.level
    (small_set c.args.cores.now c.args.core.number c.args.state.now c.requires.kept.small known)
    (omega (arith, c.loop-level-test.false, c.requires.lead.high)) c.loop-level.invariant
