-- One domain is deeper, and the rest of what is kept stays.
use Rattle.std.proofs.Common.{◌≡◌, ℕ, ◌<◌, ◌≤◌, [], length, get_or, ap, ◌∙◌, arith, refl}
use Rattle.std.specs.Vec.{with_items}
use Rattle.std.proofs.lemmas.List.{with_items_is}
use Rattle.psci_board.specs.Board.{height, nodes}
use Rattle.psci_ctl.specs.declared.level.DomainRow.{DomainRow}
use Rattle.psci_ctl.specs.Rows.{HasRows, domain_at, values_in}
use Rattle.psci_ctl.proofs.Kept.{deepened_kept, is_deepened, IsDeepened, set_row, shape_set}
use Rattle.psci_ctl.proofs.Kept.{whole}
use Rattle.psci_ctl.proofs.controller.Controller.deepen.Goals as goal

-- what was written
record Written (c : goal.After-self-1) : Type 0 where
  items : (with_items c.self.inside.domains c.set_domain.new.levels).items
      ≡ c.set_domain.new.levels
  shape : HasRows c.self.inside.board c.set_domain.new.levels
  deep : IsDeepened c.self.inside.domains.items c.set_domain.new.levels c.args.node.level
      c.args.node.place c.args.depth

written : (c : goal.After-self-1) → Written c
written c =
    let b = c.self.inside.board in
    let ds = c.self.inside.domains in
    let new_ds = c.set_domain.new.levels in
    let k : ℕ = c.args.node.level in
    let place : ℕ = c.args.node.place in
    let same : whole b c.self.inside.life c.self.inside.cores.items ds.items ≡ c.args.self.now =
    c.self.view_is in
    let low : k ≤ height b = rw (← same) at c.requires.node.level in
    let inside : place < nodes b k = rw (← same) at c.requires.node.place in
    let row : DomainRow = record { depth = c.args.depth; starts = c.domain.result.starts } in
    let set : new_ds ≡ set_row ds.items k place row =
    rw c.deref_mut.ensures.value at c.set_domain.ensures in
    let was : row.starts ≡ (domain_at ds.items k place).starts =
    ap (λ (r : DomainRow). r.starts) (rw c.deref.ensures.value at c.domain.ensures) in
    let shape : HasRows b ds.items = c.self.invariant.shape in
    let fits : place < length (get_or ds.items k []) =
    omega (arith, shape.places k low, inside) in
    record {
      items = with_items_is ds new_ds (c.set_domain.auto.levels ∙ c.deref_mut.ensures.len);
      shape = rw set (shape_set b ds.items k place row shape);
      deep = rw set (is_deepened ds.items k place c.args.depth row
          (omega (arith, shape.levels)) fits refl was);
    }

pub invariant_of-self : goal.invariant_of-self
invariant_of-self c =
    let is = written c in
    rw (is.items)
    (deepened_kept c.self.inside.board c.self.inside.life c.self.inside.cores.items
    c.self.inside.domains.items c.set_domain.new.levels c.args.node.level
    c.args.node.place c.args.depth
    c.self.invariant is.shape is.deep c.requires.depth)

pub returns : goal.returns
returns c =
    let is = written c in
    let o = c.self.inside.life in
    let cs = c.self.inside.cores.items in
    let ds = c.self.inside.domains.items in
    rw (← c.self.view_is, is.items)
    (record {
      board = refl;
      values = λ i. record (values_in o cs ds) { depth = λ l p. is.deep.depths l p i };
    })
