-- The board and the status words stay, and an acknowledgement was taken.
use Rattle.std.proofs.Common.{◌∙◌, refl, subst, sym}
use Rattle.psci_fw_spec.specs.declared.call.FwCall.TheVariants as calls
use Rattle.psci_ffi.specs.contracts.held.Held.{the_view}
use Rattle.psci_ffi.specs.Namings.{PlaceValue}
use Rattle.psci_ffi.specs.Shown.{IsNextIn}
use Rattle.psci_ffi.proofs.held.Held.take_ack.Goals as goal

pub invariant_of-self : goal.invariant_of-self
invariant_of-self c =
    let next = c.take.ensures.next 0 in
    (c.self.invariant.0 ∙ sym next.board, c.self.invariant.1 ∙ sym next.table)

pub returns-clause-next : goal.returns-clause-next
returns-clause-next c = λ core.
    let held = the_view c.self.inside in
    subst (λ (f : PlaceValue). IsNextIn f core (calls.Take c.args.ack)
    (record held { polled = c.take.new.self })) c.self.view_is
    (record { next = c.take.ensures.next core; machine = refl })
