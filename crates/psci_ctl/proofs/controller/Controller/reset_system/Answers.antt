-- A system reset begins the next life.
use Rattle.std.proofs.Common.{◌≡◌, ◌+◌, ◌<◌, Some, ap, ◌∙◌, arith, refl}
use Rattle.std.proofs.lemmas.List.{with_items_is}
use Rattle.psci_ctl.specs.Rows.{values_in}
use Rattle.psci_ctl.specs.Seen.{ControllerValue}
use Rattle.psci_ctl.proofs.Kept.{begun_kept, next_kept, next_values}
use Rattle.psci_ctl.proofs.controller.Controller.reset_system.Goals as goal

pub invariant_of-self : goal.invariant_of-self
invariant_of-self c =
    let b = c.self.inside.board in
    let here : c.self.inside.life ≡ Some c.args.life =
    ap (λ (v : ControllerValue). v.life) c.self.view_is ∙ c.requires in
    let low : c.args.life < b.lives = omega (arith, c.life_limit.ensures) in
    rw (
      with_items_is c.self.inside.cores _ (c.begin_life.auto.rows ∙ c.deref_mut.ensures.len),
      with_items_is c.self.inside.domains _ (c.begin_life.auto.levels ∙ c.deref_mut-2.ensures.len),
    )
    (begun_kept b (c.args.life + 1) _ _ c.self.invariant.board
    (next_kept b
    (values_in c.self.inside.life c.self.inside.cores.items c.self.inside.domains.items)
    c.args.life c.law_limits.ensures.change c.self.invariant.board c.self.invariant.values here
    low) c.begin_life.ensures.rows c.begin_life.ensures.values)

pub returns-clause-left : goal.returns-clause-left
returns-clause-left c =
    let b = c.self.inside.board in
    let here : c.self.inside.life ≡ Some c.args.life =
    ap (λ (v : ControllerValue). v.life) c.self.view_is ∙ c.requires in
    let low : c.args.life < b.lives = omega (arith, c.life_limit.ensures) in
    rw (
      ← c.self.view_is,
      with_items_is c.self.inside.cores _ (c.begin_life.auto.rows ∙ c.deref_mut.ensures.len),
      with_items_is c.self.inside.domains _ (c.begin_life.auto.levels ∙ c.deref_mut-2.ensures.len),
    )
    (record {
      board = refl;
      values = c.begin_life.ensures.values (Some (c.args.life + 1))
          ∙ next_values b
          (values_in c.self.inside.life c.self.inside.cores.items c.self.inside.domains.items)
          c.args.life here low;
    })
