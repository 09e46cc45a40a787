-- The tree has the depths that were read, and all else as before.
use Rattle.std.proofs.Common.{◌≡◌, ℕ, List, length, map, sum, take, drop, arith, ap, sym, refl, ◌∙◌}
use Rattle.psci_tree.proofs.Words.{TreeValue, Depths, level_sizes}
use Rattle.psci_tree.specs.Saved.{depth_words, domain_count, rows_of}
use Rattle.psci_tree.proofs.DepthRows.{depth_lengths}
use Rattle.psci_tree.proofs.Seen.{held_seen, held_with, rows_seen}
use Rattle.psci_tree.proofs.SavedTrees.{loaded, sure_low, valid, words_again}
use Rattle.psci_tree.proofs.tree.Tree.load_depths.Goals.{After-deref_mut}
use Rattle.psci_tree.proofs.tree.Tree.load_depths.Goals as goal

-- how many domains the rows have, level by level
sizes : (c : After-deref_mut)
    → map length (map (λ v. v.items) c.deref_mut.result.now) ≡ level_sizes c.args.self.now.levels
sizes c =
    let was : List (List Depths) = map (λ v. v.items) c.self.inside.depths.items in
    ap (λ vs. map length (map (λ v. v.items) vs)) c.deref_mut.ensures.value
    ∙ sym (depth_lengths (λ d. d.granted) was)
    ∙ c.self.invariant.tied.valid.granted
    ∙ ap (λ (t : TreeValue). level_sizes t.levels) c.self.view_is

-- the words, taken apart
front : (c : After-deref_mut)
    → c.split_at.result.0.now ≡ take (domain_count c.args.self.now.levels) c.args.words.now
front c =
    c.split_at.ensures.front ∙ ap (λ n. take n c.args.words.now) c.domain_count.ensures.count

back : (c : After-deref_mut)
    → c.split_at.result.1.now ≡ drop (domain_count c.args.self.now.levels) c.args.words.now
back c =
    c.split_at.ensures.back ∙ ap (λ n. drop n c.args.words.now) c.domain_count.ensures.count

pub load_rows-requires-clause-granted : goal.load_rows-requires-clause-granted
load_rows-requires-clause-granted c =
    ap (λ (ws : List ℕ). length ws) (front c)
    ∙ (loaded c.args.self.now.levels c.args.words.now c.requires).count
    ∙ ap (λ ns. sum ns) (sym (sizes c))

pub load_rows-requires-clause-sure : goal.load_rows-requires-clause-sure
load_rows-requires-clause-sure c =
    rw (back c) (λ k d h. sure_low c.args.self.now.levels _ _ k d
    (loaded c.args.self.now.levels c.args.words.now c.requires) h)

pub returns-clause-value : goal.returns-clause-value
returns-clause-value c =
    let at = (goal.at.returns-clause-value c).After-deref_mut in
    let levels = c.args.self.now.levels in
    rows_seen c.self.inside c.args.self.now c.load_rows.new.rows _ _ c.self.view_is
    (omega (arith, c.load_rows.auto.rows, c.deref_mut.ensures.len))
    (c.load_rows.ensures.granted
    ∙ ap (λ ns. rows_of ns c.split_at.result.0.now) (sizes at)
    ∙ ap (λ ws. rows_of (level_sizes levels) ws) (front at))
    (c.load_rows.ensures.confirmed
    ∙ ap (λ ns. rows_of ns c.split_at.result.1.now) (sizes at)
    ∙ ap (λ ws. rows_of (level_sizes levels) ws) (back at))

pub returns-clause-words : goal.returns-clause-words
returns-clause-words c =
    ap depth_words (returns-clause-value c)
    ∙ words_again c.args.self.now c.args.words.now c.requires

pub invariant_of-self : goal.invariant_of-self
invariant_of-self c =
    let t : TreeValue = c.args.self.now in
    held_with c.self.inside t _ _ c.self.invariant c.self.view_is (returns-clause-value c) refl
    refl (valid t (take (domain_count t.levels) c.args.words.now)
    (drop (domain_count t.levels) c.args.words.now)
    (held_seen c.self.inside t c.self.invariant c.self.view_is).tied.valid
    (loaded t.levels c.args.words.now c.requires))

pub returns-clause-tree : goal.returns-clause-tree
returns-clause-tree c = (invariant_of-self c).tied.valid
