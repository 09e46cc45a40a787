-- Words without a fault are kept, and what is kept then is saved as these words.
use Rattle.std.proofs.Common.{ℕ, ◌≤◌, ◌<◌, ◌/◌, ◌^◌, List, length, map, ap, sym}
use Rattle.std.proofs.Common.{◌∙◌, subst, arith}
use Rattle.std.specs.List.{All}
use Rattle.std.proofs.lemmas.List.{with_items_is}
use Rattle.psci_ctl.specs.declared.row.CoreRow.{CoreRow}
use Rattle.psci_ctl.specs.Rows.{HasSums}
use Rattle.psci_ctl.specs.Saved.{core_of, life_of}
use Rattle.psci_ctl.proofs.SavedFaults.{back_of, cores_few, domains_few, front_of, is_saved}
use Rattle.psci_ctl.proofs.SavedFaults.{life_at}
use Rattle.psci_ctl.proofs.SavedFaults.{loaded_kept, loaded_saved, long_of, rows_of}
use Rattle.psci_ctl.proofs.controller.Controller.load.Goals as goal

pub bounds-words-2 : goal.bounds-words-2
bounds-words-2 c =
    omega (arith, long_of _ _ (is_saved c.self.inside.board c.args.words.now c.in_ok-check.ensures))

pub life_of-self-inside-requires : goal.life_of-self-inside-requires
life_of-self-inside-requires c =
    let s = is_saved c.self.inside.board c.args.words.now c.in_ok-check.ensures in
    omega (arith, life_at _ _ s, s.lives, c.self.invariant.board.lives)

pub slice_bounds-split_at-count : goal.slice_bounds-split_at-count
slice_bounds-split_at-count c =
    omega (arith, long_of _ _ (is_saved c.self.inside.board c.args.words.now c.in_ok-check.ensures))

pub slice_bounds-split_at-start : goal.slice_bounds-split_at-start
slice_bounds-split_at-start c =
    omega (arith, long_of _ _ (is_saved c.self.inside.board c.args.words.now c.in_ok-check.ensures))

pub split_at-requires : goal.split_at-requires
split_at-requires c =
    let ws = c.args.words.now in
    let s = is_saved c.self.inside.board ws c.in_ok-check.ensures in
    omega (
      arith,
      ap (λ (xs : List ℕ). length xs) (rows_of _ ws s),
      s.count,
      c.cores.ensures.cores,
    )

pub load_cores-requires-clause-few : goal.load_cores-requires-clause-few
load_cores-requires-clause-few c =
    let b = c.self.inside.board in
    let ws = c.args.words.now in
    let s = is_saved b ws c.in_ok-check.ensures in
    subst (All (λ w. w / 4 < 2 ^ 32))
    (sym (front_of b ws _ _ s c.cores.ensures.cores c.split_at.ensures.front))
    (cores_few b ws c.self.invariant.board s)

pub load_domains-requires-clause-count : goal.load_domains-requires-clause-count
load_domains-requires-clause-count c =
    let ws = c.args.words.now in
    let s = is_saved c.self.inside.board ws c.in_ok-check.ensures in
    omega (
      arith,
      ap (λ (xs : List ℕ). length xs) (rows_of _ ws s),
      s.count,
      c.cores.ensures.cores,
      c.split_at.ensures.back_len,
    )

pub load_domains-requires-clause-few : goal.load_domains-requires-clause-few
load_domains-requires-clause-few c =
    let b = c.self.inside.board in
    let ws = c.args.words.now in
    let s = is_saved b ws c.in_ok-check.ensures in
    subst (All (λ d. d ≤ 3))
    (sym (back_of b ws _ _ s c.cores.ensures.cores c.split_at.ensures.back))
    (domains_few b ws s)

pub invariant_of-self : goal.invariant_of-self
invariant_of-self c =
    let b = c.self.inside.board in
    let ws = c.args.words.now in
    let s = is_saved b ws c.in_ok-check.ensures in
    let rows = with_items_is c.self.inside.cores c.load_cores.new.rows
    (c.load_cores.auto.rows ∙ c.deref_mut.ensures.len) in
    rw (
      rows,
      with_items_is c.self.inside.domains c.load_domains.new.levels
          (c.load_domains.auto.levels ∙ c.deref_mut-2.ensures.len),
    )
    (loaded_kept b ws c.self.invariant.board s _
    (c.life_of-self-inside.ensures ∙ ap life_of (life_at b ws s)) _
    (c.load_cores.ensures ∙ ap (λ ws. map core_of ws)
    (front_of b ws _ _ s c.cores.ensures.cores c.split_at.ensures.front)) _
    (c.load_domains.ensures.depths
    ∙ back_of b ws _ _ s c.cores.ensures.cores c.split_at.ensures.back)
    c.load_domains.ensures.shape
    (subst (λ (rs : List CoreRow). HasSums b rs c.load_domains.new.levels)
    (c.deref.ensures.value ∙ rows) c.load_domains.ensures.sums))

pub returns-clause-kept : goal.returns-clause-kept
returns-clause-kept c = invariant_of-self c

pub returns-clause-loaded : goal.returns-clause-loaded
returns-clause-loaded c =
    let b = c.self.inside.board in
    let ws = c.args.words.now in
    let s = is_saved b ws c.in_ok-check.ensures in
    rw (
      with_items_is c.self.inside.cores c.load_cores.new.rows
          (c.load_cores.auto.rows ∙ c.deref_mut.ensures.len),
      with_items_is c.self.inside.domains c.load_domains.new.levels
          (c.load_domains.auto.levels ∙ c.deref_mut-2.ensures.len),
    )
    (loaded_saved b ws c.self.invariant.board s _
    (c.life_of-self-inside.ensures ∙ ap life_of (life_at b ws s)) _
    (c.load_cores.ensures ∙ ap (λ ws. map core_of ws)
    (front_of b ws _ _ s c.cores.ensures.cores c.split_at.ensures.front)) _
    (c.load_domains.ensures.depths
    ∙ back_of b ws _ _ s c.cores.ensures.cores c.split_at.ensures.back))
