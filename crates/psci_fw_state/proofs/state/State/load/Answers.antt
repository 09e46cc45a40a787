-- Words without a fault are kept, and what is kept then is saved as these words.
use Rattle.std.proofs.Common.{ℕ, List, length, arith, ap, ◌∙◌}
use Rattle.psci_fw_state.specs.Saved.{part_fault}
use Rattle.psci_fw_state.specs.Seen.{StateValue}
use Rattle.psci_fw_state.proofs.SavedParts.{behind_heading, is_saved, loaded}
use Rattle.psci_fw_state.proofs.state.State.load.Goals as goal

pub bounds-words-2 : goal.bounds-words-2
bounds-words-2 c = omega (arith, (is_saved _ _ c.in_ok-check.ensures).long)

pub bounds-words-3 : goal.bounds-words-3
bounds-words-3 c = omega (arith, (is_saved _ _ c.in_ok-check.ensures).long)

pub bounds-words-4 : goal.bounds-words-4
bounds-words-4 c = omega (arith, (is_saved _ _ c.in_ok-check.ensures).long)

pub overflow_cast-self : goal.overflow_cast-self
overflow_cast-self c =
    omega (
      arith,
      (is_saved _ _ c.in_ok-check.ensures).lives,
      ap (λ (s : StateValue). s.board.lives) c.self.view_is,
      c.self.invariant.board.lives,
    )

pub invariant_of-self : goal.invariant_of-self
invariant_of-self c = record {
  board = c.self.invariant.board;
  tree = c.self.invariant.tree;
  levels = c.self.invariant.levels;
  rows = c.self.invariant.rows;
  counts = c.self.invariant.counts;
  slots = c.self.invariant.slots;
}

pub slice_bounds-load_parts-count : goal.slice_bounds-load_parts-count
slice_bounds-load_parts-count c = omega (arith, (is_saved _ _ c.in_ok-check.ensures).long)

pub slice_bounds-load_parts-start : goal.slice_bounds-load_parts-start
slice_bounds-load_parts-start c = omega (arith, (is_saved _ _ c.in_ok-check.ensures).long)

pub load_parts-requires-clause-count : goal.load_parts-requires-clause-count
load_parts-requires-clause-count c =
    let s = is_saved _ _ (rw (← c.self.view_is) at c.in_ok-check.ensures) in
    ap (λ (ws : List ℕ). length ws) (behind_heading c.args.words.now) ∙ s.count

pub load_parts-requires-clause-good : goal.load_parts-requires-clause-good
load_parts-requires-clause-good c =
    let s = is_saved _ _ (rw (← c.self.view_is) at c.in_ok-check.ensures) in
    ap (λ ws. part_fault c.self.inside.board ws) (behind_heading c.args.words.now) ∙ s.parts

pub returns-clause-loaded : goal.returns-clause-loaded
returns-clause-loaded c =
    let ws = c.args.words.now in
    let rest = c.load_parts.ensures.rest in
    loaded _ ws _ (is_saved _ ws c.in_ok-check.ensures) rest.life rest.halting
    (rest.mode ∙ c.mode_of-self-inside.ensures)
    (c.load_parts.ensures.parts ∙ behind_heading ws)
