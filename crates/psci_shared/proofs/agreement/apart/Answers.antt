-- Item by item.
use Rattle.std.proofs.Common.{◌≡◌, ℕ, List, ◌∷◌, ◌+◌, ◌∙◌, drop, sym, ap, subst}
use Rattle.std.proofs.lemmas.List.{drop_more}
use Rattle.psci_shared.specs.Places.{RisesFrom, apart, begins_at, places}
use Rattle.psci_shared.proofs.Placed.{goes_on, left_rises, meets, places_at, rises_low}
use Rattle.psci_shared.proofs.agreement.apart.Goals as goal

pub returns-then-begins_at : goal.returns-then-begins_at
returns-then-begins_at g c =
    let it = c.item-item.result in
    let from = c.loop-item.item-index in
    let left = places c.loop-item.left.now in
    let rest = places (drop (from + 1) c.args.one.now) in
    let at : places (drop from c.args.one.now) ≡ it.place ∷ rest =
    places_at _ _ _ _ from (drop_more c.args.one.now from it c.loop-item-test.true)
    c.item-item.is in
    sym (meets it.place rest left
    (ap (λ (l : List ℕ). begins_at it.place l) (sym c.not_below-left.ensures)
    ∙ sym c.begins_at.ensures ∙ c.if-begins_at.true))
    ∙ ap (λ (l : List ℕ). apart l left) (sym at) ∙ c.loop-item.invariant.same

pub loop-item-preserved : goal.loop-item-preserved
loop-item-preserved g c =
    let it = c.item-item.result in
    let from = c.loop-item.item-index in
    let left = places c.loop-item.left.now in
    let rest = places (drop (from + 1) c.args.one.now) in
    let at : places (drop from c.args.one.now) ≡ it.place ∷ rest =
    places_at _ _ _ _ from (drop_more c.args.one.now from it c.loop-item-test.true)
    c.item-item.is in
    let rises : RisesFrom 0 (it.place ∷ rest) =
    subst (λ (l : List ℕ). RisesFrom 0 l) at c.loop-item.invariant.rest in
    record {
      same = ap (λ (l : List ℕ). apart rest l) c.not_below-left.ensures
          ∙ sym (goes_on it.place 0 rest left rises.1 c.loop-item.invariant.left
          (ap (λ (l : List ℕ). begins_at it.place l) (sym c.not_below-left.ensures)
          ∙ sym c.begins_at.ensures ∙ c.if-begins_at.false))
          ∙ ap (λ (l : List ℕ). apart l left) (sym at)
          ∙ c.loop-item.invariant.same;
      left = subst (λ (l : List ℕ). RisesFrom 0 l) (sym c.not_below-left.ensures)
          (left_rises it.place 0 left c.loop-item.invariant.left);
      rest = rises_low (it.place + 1) rest rises.1;
    }
