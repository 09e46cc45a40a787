-- With a tree at its start, the values are those of the start of a life.
use Rattle.psci_fw_state.proofs.Words.{◌∙◌, ◌≡◌, ap, length, sym, with_items_is}
use Rattle.psci_fw_state.proofs.Begun.{at_start, none_in, some_below}
use Rattle.psci_fw_state.proofs.state.State.with_tree.Goals as goal

pub returns-in-Ok-clause-values : goal.returns-in-Ok-clause-values
returns-in-Ok-clause-values c =
    let board = c.cores.ensures.board in
    let value = c.requires.value in
    rw c.in-Ok.ensures.ok (at_start c.args.board.now _ 0 c.args.tree.value _ _
    c.in_ok-slots.slots board c.requires.tree c.requires.levels
    (λ k. rw value (c.law_start_of_life.ensures.cores c.args.board.now.levels k
    (some_below c.args.board.now.levels board.tree)))
    (λ l p h i. rw value (c.law_start_of_life.ensures.granted c.args.board.now.levels l p h i))
    (λ l p h i. rw value (c.law_start_of_life.ensures.confirmed c.args.board.now.levels l p h i))
    (c.in_ok-rows.ensures {u = tt})
    (λ slot. rw (c.in_ok-slots.ensures.slots) (none_in _ slot)))

pub invariant_of-state : goal.invariant_of-state
invariant_of-state c =
    let long : length c.reset_counts.new.counts ≡ c.in_ok-counts.counts.len =
    c.reset_counts.auto.counts ∙ ap length c.deref_mut.ensures.value
    ∙ sym c.in_ok-counts.counts.ok.0 in
    let counts = with_items_is c.in_ok-counts.counts c.reset_counts.new.counts long in
    let kept = c.in_ok-copy.ensures {u = tt} in
    rw (kept, counts) (record {
      board = c.cores.ensures.board;
      tree = c.requires.tree;
      levels = c.requires.levels;
      rows = (c.in_ok-rows.ensures {u = tt}).count;
      counts = rw (← c.deref.ensures.value) c.reset_counts.ensures;
      slots = c.in_ok-slots.ensures.cores ∙ c.cores.ensures.cores;
    })
