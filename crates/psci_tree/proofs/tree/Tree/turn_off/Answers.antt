-- Every core is off, and every domain is granted power-down, which is confirmed.
use Rattle.psci_tree.proofs.Words.{◌∙◌, ◌≡◌, ap, AreKept, arith, Depths, IsHeld, Kept, length}
use Rattle.psci_tree.proofs.Words.{level_sizes, List, map, never_started, replicate, size_below}
use Rattle.psci_tree.proofs.Words.{subst, sym, TreeValue, with_items, with_items_is, ℕ}
use Rattle.psci_tree.proofs.DepthRows.{depth_lengths, filled_depths}
use Rattle.psci_tree.proofs.Gone.{turned_off}
use Rattle.psci_tree.proofs.Granted.{all_off_valid}
use Rattle.psci_tree.proofs.Seen.{held_seen, kept_in}
use Rattle.psci_tree.proofs.tree.Tree.turn_off.Goals as goal

pub returns-clause-value : goal.returns-clause-value
returns-clause-value c =
    let valid = c.self.invariant.tied.valid in
    let sizes : List ℕ = level_sizes c.self.inside.board.levels in
    let deepest : Depths = record { granted = 3; confirmed = 3 } in
    let was : List (List Depths) = map (λ v. v.items) c.self.inside.depths.items in
    let lengths : map length was ≡ sizes =
    sym (depth_lengths (λ d. d.granted) was) ∙ valid.granted in
    let depths = with_items_is c.self.inside.depths c.fill_rows.new.rows
    (omega (arith, c.fill_rows.auto.rows, c.deref_mut-2.ensures.len)) in
    let cores : c.fill.new.self.items
    ≡ replicate (size_below c.self.inside.board.levels) never_started =
    c.fill.ensures.items (λ y h. h)
    ∙ ap (λ n. replicate n never_started) (c.self.inside.cores.ok.0 ∙ valid.cores) in
    rw (
      ← c.self.view_is,
      depths,
      c.fill_rows.ensures,
      c.deref_mut-2.ensures.value,
      lengths,
      filled_depths (λ d. d.granted) sizes deepest,
      filled_depths (λ d. d.confirmed) sizes deepest,
      cores,
    )

pub invariant_of-self : goal.invariant_of-self
invariant_of-self c =
    let t : TreeValue = c.args.self.now in
    let held = held_seen c.self.inside t c.self.invariant c.self.view_is in
    let rows = with_items_is c.self.inside.kept c.turn_off.new.rows
    (omega (arith, c.turn_off.auto.rows, c.deref_mut.ensures.len)) in
    let now : List (List Kept) =
    map (λ v. v.items) (with_items c.self.inside.kept c.turn_off.new.rows).items in
    let kept : AreKept t.levels (replicate (size_below t.levels) never_started) now =
    rw (rows, c.turn_off.ensures, c.deref_mut.ensures.value)
    (turned_off t.levels t.cores (kept_in c.self.inside)
    (c.law_spans.ensures t.levels held.tied.valid.tree) held.tied.valid.cores held.tied.kept) in
    subst (IsHeld now c.self.inside.ways.items) (sym (returns-clause-value c)) (record {
      tied = record {
        kept = kept;
        valid = all_off_valid t.levels held.tied.valid.tree held.tied.valid.high;
      };
      lead = held.lead;
    })

pub returns-clause-tree : goal.returns-clause-tree
returns-clause-tree c = (invariant_of-self c).tied.valid
