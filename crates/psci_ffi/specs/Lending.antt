-- What becomes of a slot while what is in it is lent.
use Rattle.std.specs.Prelude.{Some}
use base.Fml.{Fml}
use denote.Ref.{MutBor}
use Rattle.std.specs.Borrow.{Lends}
use Rattle.psci_ctl.specs.contracts.controller.Controller as Controller
use Rattle.psci_control.specs.contracts.control_side.ControlSide as ControlSide
use Rattle.psci_ffi.specs.contracts.controller_place.ControllerSlot as ControllerSlot
use Rattle.psci_ffi.specs.contracts.guest.Guest as Guest
use Rattle.psci_ffi.specs.contracts.guest.GuestSlot as GuestSlot
use Rattle.psci_ffi.specs.contracts.held.Held as Held
use Rattle.psci_ffi.specs.contracts.poller.PollerSlot as PollerSlot
use Rattle.psci_ffi.specs.contracts.place.Slot as Slot
use Rattle.psci_ffi.specs.contracts.poller.Watch as Watch
use Rattle.psci_ffi.specs.contracts.control_place.ControlSlot as ControlSlot

-- the slot ends with what was last written through the borrow
abbrev pub LendsHeld : MutBor Slot.the_row.Denot → MutBor Held.the_row.Denot → Fml
LendsHeld s r = Lends Slot.the_row Held.the_row s r
    (λ kept. record s.now { kept = Some kept })

-- the slot of a power controller ends with what was last written through the borrow
abbrev pub LendsController : MutBor ControllerSlot.the_row.Denot → MutBor Controller.the_row.Denot
    → Fml
LendsController s r = Lends ControllerSlot.the_row Controller.the_row s r
    (λ kept. record s.now { kept = Some kept })

-- the slot of one who polls ends with what was last written through the borrow
abbrev pub LendsWatch : MutBor PollerSlot.the_row.Denot → MutBor Watch.the_row.Denot → Fml
LendsWatch s r = Lends PollerSlot.the_row Watch.the_row s r
    (λ kept. record s.now { kept = Some kept })

-- the slot of a guest's power ends with what was last written through the borrow
abbrev pub LendsGuest : MutBor GuestSlot.the_row.Denot → MutBor Guest.the_row.Denot → Fml
LendsGuest s r = Lends GuestSlot.the_row Guest.the_row s r
    (λ kept. record s.now { kept = Some kept })

-- the slot of the power controller's side ends with what was last written through the borrow
abbrev pub LendsSide : MutBor ControlSlot.the_row.Denot → MutBor ControlSide.the_row.Denot → Fml
LendsSide s r = Lends ControlSlot.the_row ControlSide.the_row s r
    (λ kept. record s.now { kept = Some kept })
