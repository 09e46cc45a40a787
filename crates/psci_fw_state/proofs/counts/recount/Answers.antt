-- Level by level, the domain on the core's path is counted anew.
use Rattle.psci_fw_state.proofs.Words.{◌<◌, ◌∙◌, ◌≡◌, ◌≤◌, ap, arith, BoardValue, CoreRow, eq-eqb}
use Rattle.psci_fw_state.proofs.Words.{get_or, get_or_default, length, List, map, ne_eqb, Node}
use Rattle.psci_fw_state.proofs.Words.{off_row, one_core, refl, Status, status_at, updated, ℕ}
use Rattle.psci_tree.specs.Standing.{on_path as on_path_of}
use Rattle.psci_fw_state.proofs.KeptCounts.{Turn, turn}
use Rattle.psci_fw_state.proofs.counts.recount.Goals.{In-loop-level}
use Rattle.psci_fw_state.proofs.counts.recount.Goals as goal

abbrev node_at : ℕ → ℕ → Node
node_at level place = record { level = level; place = place }

status_in : (rows : List CoreRow) (core : ℕ) (r : CoreRow) → core < length rows
    → (get_or rows core r).status ≡ status_at rows core
status_in rows core r inside =
    ap (λ (x : CoreRow). x.status) (get_or_default rows core r off_row inside)

here : (f : ℕ → Status) (core : ℕ) (s : Status) → s ≡ updated f core s core
here f core s = let at = eq-eqb core core refl in rw at refl

beside : (f : ℕ → Status) (core : ℕ) (s : Status) (c : ℕ) → (c ≡ core → ⊥)
    → f c ≡ updated f core s c
beside f core s c n = let at = ne_eqb c core n in rw at refl

-- the turn that the loop is at
turn_at : (c : In-loop-level) → c.loop-level.level ≤ length c.args.board.now.levels
    → Turn c.args.board.now.levels
    (updated (status_at c.args.rows.now) c.args.core.number c.args.before)
    (status_at c.args.rows.now) (map (λ v. v.items) c.loop-level.counts) c.loop-level.level
    (node_at c.loop-level.level (get_or c.places-places.result c.loop-level.level 0))
    c.of_core-had.result c.of_core-has.result
turn_at c top =
    let b : BoardValue = c.args.board.now in
    let core : ℕ = c.args.core.number in
    let now : ℕ → Status = status_at c.args.rows.now in
    turn b (updated now core c.args.before) now core
    (c.law_paths.ensures b c.requires.counts.board) c.requires.counts.board.tree c.requires.inside
    (beside now core c.args.before) (map (λ v. v.items) c.loop-level.counts) c.loop-level.level
    (omega arith) top
    c.loop-level.invariant
    (node_at c.loop-level.level (get_or c.places-places.result c.loop-level.level 0))
    (ap (node_at c.loop-level.level) (c.places-places.ensures c.loop-level.level (omega (
      arith,
      top,
      ap length c.requires.levels,
    )))
    ∙ ap (λ (ws : List (List ℕ)). on_path_of ws core c.loop-level.level) c.requires.levels)
    c.of_core-had.result c.of_core-has.result
    (c.of_core-had.ensures ∙ ap one_core (here now core c.args.before))
    (c.of_core-has.ensures
    ∙ ap one_core (status_in c.args.rows.now core _ (omega (
      arith,
      c.requires.inside,
      c.requires.counts.count,
    ))))

pub recount_domain-requires-clause-place : goal.recount_domain-requires-clause-place
recount_domain-requires-clause-place c =
    (turn_at (goal.at.recount_domain-requires-clause-place c).In-loop-level
    (omega (arith, c.if-level-height.false, c.height.ensures.height))).place

pub recount_domain-requires-clause-may : goal.recount_domain-requires-clause-may
recount_domain-requires-clause-may c =
    (turn_at (goal.at.recount_domain-requires-clause-may c).In-loop-level
    (omega (arith, c.if-level-height.false, c.height.ensures.height))).may

pub loop-level-preserved : goal.loop-level-preserved
loop-level-preserved c =
    (turn_at (goal.at.loop-level-preserved c).In-loop-level
    (omega (arith, c.if-level-height.false, c.height.ensures.height))).more _
    c.recount_domain.ensures

pub returns-then-level-height : goal.returns-then-level-height
returns-then-level-height c =
    let top : length c.args.board.now.levels < c.loop-level.level =
    omega (arith, c.if-level-height.true, c.height.ensures.height) in
    record {
      shape = c.loop-level.invariant.shape;
      each = λ l p some tall. c.loop-level.invariant.done l p some (omega (arith, top, tall)) tall;
    }
