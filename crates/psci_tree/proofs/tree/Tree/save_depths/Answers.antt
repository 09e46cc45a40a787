-- The granted depths are written, and then those that are confirmed.
use Rattle.std.proofs.Common.{◌≡◌, length, arith, ap, ◌∙◌}
use Rattle.psci_tree.proofs.Words.{IsDomainTree, TreeValue, granted_of, confirmed_of}
use Rattle.psci_tree.proofs.Words.{map}
use Rattle.psci_tree.proofs.Seen.{held_seen}
use Rattle.psci_tree.proofs.SavedRows.{flat}
use Rattle.psci_tree.proofs.SavedTrees.{all_saved, is_flat}
use Rattle.psci_tree.proofs.tree.Tree.save_depths.Goals as goal

pub save_rows-requires : goal.save_rows-requires
save_rows-requires c =
    let t : TreeValue = c.args.self.now in
    let valid : IsDomainTree t =
    (held_seen c.self.inside t c.self.invariant c.self.view_is).tied.valid in
    let same : granted_of (map (λ v. v.items) c.deref.result.now) ≡ t.granted =
    ap (λ vs. granted_of (map (λ v. v.items) vs)) c.deref.ensures.value
    ∙ ap (λ (u : TreeValue). u.granted) c.self.view_is in
    omega (
      arith,
      c.requires,
      ap (λ rows. length (flat rows)) same,
      (is_flat t valid).granted,
    )

pub save_rows-requires-2 : goal.save_rows-requires-2
save_rows-requires-2 c =
    let t : TreeValue = c.args.self.now in
    let valid : IsDomainTree t =
    (held_seen c.self.inside t c.self.invariant c.self.view_is).tied.valid in
    let same : confirmed_of (map (λ v. v.items) c.deref-2.result.now) ≡ t.confirmed =
    ap (λ vs. confirmed_of (map (λ v. v.items) vs)) c.deref-2.ensures.value
    ∙ ap (λ (u : TreeValue). u.confirmed) c.self.view_is in
    omega (
      arith,
      c.requires,
      c.domain_count.ensures.count,
      ap (λ rows. length (flat rows)) same,
      (is_flat t valid).confirmed,
      c.save_rows.auto.words,
    )

pub returns : goal.returns
returns c =
    let t : TreeValue = c.args.self.now in
    all_saved t (granted_of (map (λ v. v.items) c.deref.result.now))
    (confirmed_of (map (λ v. v.items) c.deref-2.result.now)) c.args.start c.domain_count.result
    c.args.words.now c.save_rows.new.words c.save_rows-2.new.words
    (held_seen c.self.inside t c.self.invariant c.self.view_is).tied.valid
    (ap (λ vs. granted_of (map (λ v. v.items) vs)) c.deref.ensures.value
    ∙ ap (λ (u : TreeValue). u.granted) c.self.view_is)
    (ap (λ vs. confirmed_of (map (λ v. v.items) vs)) c.deref-2.ensures.value
    ∙ ap (λ (u : TreeValue). u.confirmed) c.self.view_is) c.domain_count.ensures.count
    c.save_rows.ensures c.save_rows-2.ensures
