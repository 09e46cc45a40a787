-- How many words there are, that they have no fault, and what they tell.
use Rattle.std.proofs.Common.{◌≡◌, ◌+◌, ◌*◌, suc, length, arith, ap, sym, ◌∙◌}
use Rattle.psci_board.specs.Board.{BoardValue, cores, size_below}
use Rattle.psci_messages.specs.Saved.{are_slots, slots_words}
use Rattle.psci_tree.specs.Saved.{are_depths, depth_words, domain_count}
use Rattle.psci_fw_state.specs.Counts.{AreCounts}
use Rattle.psci_fw_state.specs.Rows.{status_at}
use Rattle.psci_fw_state.specs.Saved.{IsSavable}
use Rattle.psci_fw_state.specs.Seen.{IsState, StateValue}
use Rattle.psci_fw_state.proofs.SavedParts.{AreCounted, AreGood, AreSame, counts_same, many_saved}
use Rattle.psci_fw_state.proofs.SavedParts.{no_fault, parts_told}
use Rattle.psci_fw_state.proofs.SavedWords.{many_rows, rows_told}
use Rattle.psci_fw_state.proofs.saved_laws.law_saved_state.Goals.{After-law_slots_words}
use Rattle.psci_fw_state.proofs.saved_laws.law_saved_state.Goals as goal

counted : (c : After-law_slots_words) (s : StateValue) → IsState s → AreCounted s
counted c s is =
    let trees = c.law_tree_words.ensures in
    record {
      of_cores = trees.core_count s.tree.cores
          ∙ ap (λ n. 2 * n) (is.tree.cores ∙ ap (λ ls. size_below ls) is.levels);
      of_depths = trees.depth_count s.tree is.tree ∙ ap (λ ls. 2 * domain_count ls) is.levels;
      of_rows = many_rows s.rows ∙ ap (λ n. 4 * n) is.rows;
      of_slots = c.law_slots_words.ensures.count s.slots ∙ ap (λ n. 12 * (n + 1)) is.slots;
    }

good : (c : After-law_slots_words) (s : StateValue) → IsState s → IsSavable s → AreGood s
good c s is may =
    let trees = c.law_tree_words.ensures in
    let next : suc (length s.slots.cores) ≡ cores s.board + 1 = omega (arith, is.slots) in
    record {
      counted = counted c s is;
      of_cores = trees.cores s.tree is.tree may.counted;
      of_depths = ap (λ ls. are_depths ls (depth_words s.tree)) (sym is.levels)
          ∙ trees.depths s.tree is.tree;
      of_slots = ap (λ n. are_slots n (slots_words s.slots)) (sym next)
          ∙ c.law_slots_words.ensures.whole s.slots may.slots;
    }

pub returns-clause-count : goal.returns-clause-count
returns-clause-count c = λ s is.
    many_saved s (counted (goal.at.returns-clause-count c).After-law_slots_words s is)

pub returns-clause-whole : goal.returns-clause-whole
returns-clause-whole c = λ s is may life.
    no_fault s (good (goal.at.returns-clause-whole c).After-law_slots_words s is may) life

pub returns-clause-same : goal.returns-clause-same
returns-clause-same c = λ s t is are may can board e.
    let at = (goal.at.returns-clause-same c).After-law_slots_words in
    let all : AreSame s t = parts_told s t (counted at s is) (counted at t are) board e in
    let levels : s.tree.levels ≡ t.tree.levels =
    is.levels ∙ ap (λ (b : BoardValue). b.levels) board ∙ sym are.levels in
    let tree : s.tree ≡ t.tree =
    at.law_tree_words.ensures.same s.tree t.tree is.tree are.tree levels all.cores all.depths in
    let rows : s.rows ≡ t.rows =
    rows_told s.rows t.rows
    (is.rows ∙ ap (λ (b : BoardValue). cores b) board ∙ sym are.rows) all.rows in
    let slots : s.slots ≡ t.slots =
    at.law_slots_words.ensures.same s.slots t.slots may.slots can.slots
    (is.slots ∙ ap (λ (b : BoardValue). cores b) board ∙ sym are.slots) all.slots in
    let here : AreCounts t.board.levels (status_at t.rows) s.counts =
    rw (← board, ← rows) is.counts in
    let counts : s.counts ≡ t.counts =
    counts_same t.board.levels (status_at t.rows) s.counts t.counts here are.counts in
    rw (board, all.life, all.halting, all.mode, tree, rows, slots, counts)
