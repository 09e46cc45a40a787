-- Each part is kept, and so they are the words.
use Rattle.std.proofs.Common.{◌+◌, ◌∙◌, ◌≡◌, ap, arith, flat_map, length, List, suc}
use Rattle.std.proofs.Common.{ℕ}
use Rattle.std.proofs.lemmas.List.{with_items_is}
use Rattle.psci_board.specs.Board.{cores, size_below}
use Rattle.psci_messages.specs.Saved.{are_slots}
use Rattle.psci_tree.specs.Recount.{TreeValue}
use Rattle.psci_tree.specs.Saved.{are_cores, are_depths, core_words}
use Rattle.psci_fw_state.specs.declared.row.CoreRow.{CoreRow}
use Rattle.psci_fw_state.specs.Saved.{are_rows}
use Rattle.psci_fw_state.specs.Seen.{StateValue}
use Rattle.psci_fw_state.specs.contracts.state.State.{the_view}
use Rattle.psci_fw_state.proofs.SavedParts.{AreLong, are_long, AreParts, are_parts, parts_loaded}
use Rattle.psci_fw_state.proofs.state.State.load_parts.Goals.{After-deref_mut-2, After-parts}
use Rattle.psci_fw_state.proofs.state.State.load_parts.Goals as goal

-- the words have no fault
good : (c : After-parts) → AreParts c.args.self.now.board c.args.words.now
good c = are_parts c.args.self.now.board c.args.words.now c.requires.good

-- and each part is as long as is said
long : (c : After-parts) → AreLong c.args.self.now.board c.args.words.now
long c = are_long c.args.self.now.board c.args.words.now c.requires.count

pub load_cores-requires-clause-count : goal.load_cores-requires-clause-count
load_cores-requires-clause-count c =
    omega (
      arith,
      ap (λ (ws : List ℕ). length ws) c.parts.ensures.cores,
      (long (goal.at.load_cores-requires-clause-count c).After-parts).core_long,
      ap (λ (s : StateValue). size_below s.board.levels) c.self.view_is,
      ap (λ (ls : List (List ℕ)). size_below ls) c.self.invariant.levels,
      ap (λ (t : TreeValue). size_below t.levels) c.deref_mut.ensures.value,
    )

pub load_cores-requires-clause-cores : goal.load_cores-requires-clause-cores
load_cores-requires-clause-cores c =
    ap are_cores c.parts.ensures.cores
    ∙ (good (goal.at.load_cores-requires-clause-cores c).After-parts).good_cores

-- the tree is as before, but for its cores
levels : (c : After-deref_mut-2)
    → c.deref_mut-2.result.now.levels ≡ c.self.inside.board.levels
levels c =
    ap (λ (t : TreeValue). t.levels) c.deref_mut-2.ensures.value
    ∙ c.load_cores.ensures.rest.levels
    ∙ ap (λ (t : TreeValue). t.levels) c.deref_mut.ensures.value
    ∙ c.self.invariant.levels

pub load_depths-requires : goal.load_depths-requires
load_depths-requires c =
    let at = goal.at.load_depths-requires c in
    ap (λ ls. are_depths ls c.parts.result.1.now)
    (levels c ∙ ap (λ (s : StateValue). s.board.levels) c.self.view_is)
    ∙ ap (λ ws. are_depths c.args.self.now.board.levels ws) c.parts.ensures.depths
    ∙ (good at.After-parts).good_depths

pub load_rows-requires-clause-levels : goal.load_rows-requires-clause-levels
load_rows-requires-clause-levels c =
    let at = goal.at.load_rows-requires-clause-levels c in
    ap (λ (t : TreeValue). t.levels) (c.deref.ensures ∙ c.load_depths.ensures.value)
    ∙ levels at.After-deref_mut-2

pub load_rows-requires-clause-counts : goal.load_rows-requires-clause-counts
load_rows-requires-clause-counts c =
    rw (c.deref_mut-3.ensures.value, c.deref_mut-4.ensures.value) (record {
      board = c.self.invariant.board;
      count = c.self.invariant.rows;
      counts = c.self.invariant.counts;
    })

pub load_rows-requires-clause-count : goal.load_rows-requires-clause-count
load_rows-requires-clause-count c =
    omega (
      arith,
      ap (λ (ws : List ℕ). length ws) c.parts.ensures.rows,
      ap (λ (s : StateValue). cores s.board) c.self.view_is,
      (long (goal.at.load_rows-requires-clause-count c).After-parts).row_long,
    )

pub load_rows-requires-clause-rows : goal.load_rows-requires-clause-rows
load_rows-requires-clause-rows c =
    let at = goal.at.load_rows-requires-clause-rows c in
    ap are_rows c.parts.ensures.rows ∙ (good at.After-parts).good_rows

pub load-requires : goal.load-requires
load-requires c =
    let at = goal.at.load-requires c in
    let next : suc (length c.self.inside.slots.cores) ≡ cores c.args.self.now.board + 1 =
    omega (arith, c.self.invariant.slots, ap (λ (s : StateValue). cores s.board) c.self.view_is) in
    ap (λ n. are_slots n c.parts.result.3.now) next
    ∙ ap (λ ws. are_slots (cores c.args.self.now.board + 1) ws) c.parts.ensures.slots
    ∙ (good at.After-parts).good_slots

pub invariant_of-self : goal.invariant_of-self
invariant_of-self c =
    let at = goal.at.invariant_of-self c in
    let s : StateValue = the_view c.self.inside in
    let rows = with_items_is c.self.inside.rows c.load_rows.new.rows
    (c.load_rows.auto.rows ∙ c.deref_mut-3.ensures.len) in
    let counts = with_items_is c.self.inside.counts c.load_rows.new.counts
    (c.load_rows.auto.counts ∙ c.deref_mut-4.ensures.len) in
    rw (rows, counts) (record {
      board = c.self.invariant.board;
      tree = c.load_depths.ensures.tree;
      levels = ap (λ (t : TreeValue). t.levels) c.load_depths.ensures.value
          ∙ levels at.After-deref_mut-2;
      rows = c.load_rows.auto.rows
          ∙ ap (λ (rs : List CoreRow). length rs) c.deref_mut-3.ensures.value
          ∙ c.self.invariant.rows;
      counts = c.load_rows.ensures.counts;
      slots = c.load.ensures.cores ∙ c.self.invariant.slots;
    })

pub returns-clause-parts : goal.returns-clause-parts
returns-clause-parts c =
    let rows = with_items_is c.self.inside.rows c.load_rows.new.rows
    (c.load_rows.auto.rows ∙ c.deref_mut-3.ensures.len) in
    rw rows (parts_loaded c.args.self.now.board c.args.words.now (record (the_view c.self.inside) {
      tree = c.load_depths.new.self;
      rows = c.load_rows.new.rows;
      slots = c.load.new.self;
    })
    (ap (λ (t : TreeValue). flat_map core_words t.cores) c.load_depths.ensures.value
    ∙ ap (λ (t : TreeValue). flat_map core_words t.cores) c.deref_mut-2.ensures.value
    ∙ c.load_cores.ensures.words ∙ c.parts.ensures.cores)
    (c.load_depths.ensures.words ∙ c.parts.ensures.depths)
    (c.load_rows.ensures.rows ∙ c.parts.ensures.rows)
    (c.load.ensures.words ∙ c.parts.ensures.slots))

pub returns-clause-rest : goal.returns-clause-rest
returns-clause-rest c = record {
  board = ap (λ (s : StateValue). s.board) c.self.view_is;
  life = ap (λ (s : StateValue). s.life) c.self.view_is;
  halting = ap (λ (s : StateValue). s.halting) c.self.view_is;
  mode = ap (λ (s : StateValue). s.mode) c.self.view_is;
}
