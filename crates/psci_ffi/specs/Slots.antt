-- What a slot owns, whatever it keeps: a box where it is full, and nothing where it is empty. And
-- what the slots keep.
use Rattle.std.specs.Prelude.{None, Option, Some}
use base.Fml.{Fml, ftrue}
use denote.RattleType.{RattleType}
use denote.RawPtr.{Ptr}
use Rattle.std.specs.Box.Ownership.{box_owns}
use Rattle.std.specs.Global.{Global}
use Rattle.std.specs.contracts.impls.GlobalAllocator.TheImpl.{ghosts}
use Rattle.psci_ctl.specs.contracts.controller.Controller as Controller
use Rattle.psci_control.specs.contracts.control_side.ControlSide as ControlSide
use Rattle.psci_ffi.specs.contracts.guest.Guest as Guest
use Rattle.psci_ffi.specs.contracts.held.Held as Held
use Rattle.psci_ffi.specs.contracts.poller.Watch as Watch

-- at this address a slot owns a box of what is kept, and nothing where it is empty
abbrev pub owns_kept : (R : RattleType) → Global → Ptr → Option R.Denot → Fml
owns_kept R alloc p None = ftrue
owns_kept R alloc p (Some x) = box_owns (ghosts.dealloc_token alloc) R p x

-- a slot that keeps this is full
abbrev pub IsFilled : {A : Type 0} → Option A → Type 0
IsFilled None = ⊥
IsFilled (Some x) = Unit {0}

-- what the slots keep, or nothing: a firmware
abbrev pub Kept : Type 0
Kept = Option Held.the_row.Denot

-- a power controller
abbrev pub KeptController : Type 0
KeptController = Option Controller.the_row.Denot

-- the power controller's side of a port
abbrev pub KeptControl : Type 0
KeptControl = Option ControlSide.the_row.Denot

-- the power of a guest
abbrev pub KeptGuest : Type 0
KeptGuest = Option Guest.the_row.Denot

-- what one who polls reads the status words by
abbrev pub KeptWatch : Type 0
KeptWatch = Option Watch.the_row.Denot
