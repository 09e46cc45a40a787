-- A table in which all are found has the names.
use Rattle.std.proofs.lemmas.List.{with_items_is}
use Rattle.std.specs.Vec.{with_items}
use Rattle.psci_platform.proofs.Words.{◌∙◌, ◌≡◌, ap, AreAmong, DescriptionValue, List, Name}
use Rattle.psci_platform.proofs.Words.{subst, sym, ℕ}
use Rattle.psci_platform.specs.Names.{are_found}
use Rattle.psci_platform.proofs.Swaps.{each_of}
use Rattle.psci_platform.proofs.description.Description.table.Goals as goal

pub returns-in-Some-factor_for : goal.returns-in-Some-factor_for
returns-in-Some-factor_for c =
    let old = c.in_ok-slots.slots in
    let new = c.factor_for.new.slots in
    let same : (with_items old new).items ≡ new =
    with_items_is old new (c.factor_for.auto.slots ∙ c.deref_mut.ensures.len) in
    record {
      each = each_of c.args.self.now c.args.board.now c.args.boot.number c.args.level
          c.in_ok-names.names.items (with_items old new).items c.in_ok-names.ensures
          (subst (λ (xs : List Name). AreAmong c.in_ok-names.names.items xs) (sym same)
          (subst (λ (xs : List Name). AreAmong xs new)
          c.deref-4.ensures.value c.factor_for.ensures.among));
      found = ap (λ (xs : List Name). are_found c.args.self.now.mpidrs c.args.level xs
          c.in-Some-factor_for.factor c.mask_for-mask.result) same
          ∙ ap (λ (ms : List ℕ). are_found ms c.args.level new
          c.in-Some-factor_for.factor c.mask_for-mask.result)
          (sym (c.deref-3.ensures.value
          ∙ ap (λ (d : DescriptionValue). d.mpidrs) c.self.view_is))
          ∙ c.in-Some-factor_for.ensures.found;
    }
