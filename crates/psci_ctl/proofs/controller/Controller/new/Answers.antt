-- A new controller has begun its first life.
use Rattle.std.proofs.Common.{Some, ◌∙◌, subst}
use Rattle.std.proofs.lemmas.List.{with_items_is}
use Rattle.psci_board.specs.Board.{IsBoard}
use Rattle.psci_ctl.proofs.Kept.{begun_kept}
use Rattle.psci_ctl.proofs.controller.Controller.new.Goals as goal

pub invariant_of-result : goal.invariant_of-result
invariant_of-result c =
    let b = c.in_ok-board.board in
    let is : IsBoard b = subst IsBoard c.board.view_is c.board.invariant in
    rw (
      with_items_is c.in_ok-cores.cores _ (c.begin_life.auto.rows ∙ c.deref_mut.ensures.len),
      with_items_is c.in_ok-domains.domains _
          (c.begin_life.auto.levels ∙ c.deref_mut-2.ensures.len),
    )
    (begun_kept b 1 _ _ is (c.law_limits.ensures.first b is) c.begin_life.ensures.rows
    c.begin_life.ensures.values)

pub returns-clause-values : goal.returns-clause-values
returns-clause-values c =
    rw (
      with_items_is c.in_ok-cores.cores _ (c.begin_life.auto.rows ∙ c.deref_mut.ensures.len),
      with_items_is c.in_ok-domains.domains _
          (c.begin_life.auto.levels ∙ c.deref_mut-2.ensures.len),
      ← (c.in_ok-board.ensures {u = tt}),
    )
    (c.begin_life.ensures.values (Some 1))
