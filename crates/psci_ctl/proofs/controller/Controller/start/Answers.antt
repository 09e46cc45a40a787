-- One core was started once more, and the domains on its path are fully on.
use Rattle.std.proofs.Common.{◌≡◌, ℕ, ◌+◌, List, ap, ◌∙◌, refl}
use Rattle.std.proofs.lemmas.List.{with_items_is}
use Rattle.psci_ctl_spec.specs.Values.{Values}
use Rattle.psci_ctl.specs.declared.row.CoreRow.{CoreRow}
use Rattle.psci_ctl.specs.Rows.{core_row, values_in}
use Rattle.psci_ctl.specs.Seen.{ControllerValue}
use Rattle.psci_ctl.proofs.Kept.{next_number, started_kept, whole}
use Rattle.psci_ctl.proofs.controller.Controller.start.Goals as goal

pub invariant_of-self : goal.invariant_of-self
invariant_of-self c =
    let b = c.self.inside.board in
    let cs = c.self.inside.cores in
    let ds = c.self.inside.domains in
    let same : whole b c.self.inside.life cs.items ds.items ≡ c.args.self.now = c.self.view_is in
    rw (
      with_items_is cs _ (c.start_core.auto.rows ∙ c.deref_mut.ensures.len),
      with_items_is ds _ (c.start_core.auto.levels ∙ c.deref_mut-2.ensures.len),
    )
    (started_kept b c.self.inside.life c.args.life c.args.core.number c.args.cause cs.items _
    ds.items _ c.law_limits.ensures.change c.self.invariant
    (ap (λ (v : ControllerValue). v.life) same ∙ c.requires.life)
    (rw (← same) at c.requires.core) (rw (← same) at c.requires.more)
    c.start_core.ensures.rows (λ l.
    rw (c.deref_mut.ensures.value, c.deref_mut-2.ensures.value) at (c.start_core.ensures.values l)))

pub start_core-requires-clause-rows : goal.start_core-requires-clause-rows
start_core-requires-clause-rows c =
    let is = c.self.invariant in
    rw (c.deref_mut.ensures.value, c.deref_mut-2.ensures.value)
    (record {
      cores = is.cores;
      shape = is.shape;
      sums = is.sums c.args.life
          (ap (λ (v : ControllerValue). v.life) c.self.view_is ∙ c.requires.life);
    })

pub returns-clause-left : goal.returns-clause-left
returns-clause-left c =
    rw (
      ← c.self.view_is,
      with_items_is c.self.inside.cores _ (c.start_core.auto.rows ∙ c.deref_mut.ensures.len),
      with_items_is c.self.inside.domains _ (c.start_core.auto.levels ∙ c.deref_mut-2.ensures.len),
    )
    (record {
      board = refl;
      values = rw (c.deref_mut.ensures.value, c.deref_mut-2.ensures.value) at
          (c.start_core.ensures.values c.self.inside.life);
    })

pub returns-clause-start : goal.returns-clause-start
returns-clause-start c =
    let core : ℕ = c.args.core.number in
    let life = c.self.inside.life in
    let number : c.starts.result ≡ (core_row c.self.inside.cores.items core).starts + 1 =
    c.starts.ensures
    ∙ ap (λ (xs : List CoreRow). (core_row xs core).starts)
    (with_items_is c.self.inside.cores _ (c.start_core.auto.rows ∙ c.deref_mut.ensures.len))
    ∙ ap (λ (v : Values). v.starts core) (c.start_core.ensures.values life)
    ∙ next_number c.self.inside.board
    (values_in life c.deref_mut.result.now c.deref_mut-2.result.now) core c.args.cause
    ∙ ap (λ (xs : List CoreRow). (core_row xs core).starts + 1) c.deref_mut.ensures.value in
    rw (← c.self.view_is)
    (ap (λ n. record { life = c.args.life; number = n; cause = c.args.cause }) number)
