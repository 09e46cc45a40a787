-- Worked examples: the words that a place is opened with, and that are left in it.
use Rattle.std.specs.Prelude.{Option}
use Rattle.std.proofs.Common.{None, Some, refl, ℕ}
use Rattle.std.specs.Global.{Global}
use Rattle.std_alloc.specs.declared.boxed.Box.{Box}
use Rattle.psci_board.specs.Board.{BoardValue}
use Rattle.psci_fw_spec.specs.declared.call.FwCall.{FwCall}
use Rattle.psci_platform.specs.Platforms.{PlatformValue}
use Rattle.psci_status.specs.Lists.{IsNext, PolledView}
use Rattle.psci_ffi.specs.declared.naming.Naming.TheVariants.{Board, Machine}
use Rattle.psci_ffi.specs.Namings.{PlaceValue}
use Rattle.psci_ffi.specs.Shown.{IsNew, IsNewIn, IsNewOn, IsNextIn}
use Rattle.psci_ffi.proofs.ControlDone.{apart-by}

-- Words ---------------------------------------------------------------------------------------

-- a place with these words
abbrev with_machine : Option PlatformValue → PolledView → PlaceValue
with_machine machine p = record { polled = p; machine = machine }

abbrev many : Option PlatformValue → ℕ
many None = 0
many (Some m) = 1

-- a new firmware is that of the board, in the words that it is opened with
opened : (b : Box BoardValue Global) (m : Box PlatformValue Global) (p : PolledView)
    → (IsNew b.value p → IsNewIn (Board b) (with_machine None p))
    × (IsNew m.value.board p → IsNewIn (Machine m) (with_machine (Some m.value) p))
    × (IsNewIn (Machine m) (with_machine (Some m.value) p) → IsNew m.value.board p)
    × (IsNew b.value p → IsNewOn b.value (with_machine None p))
    × (IsNewOn b.value (with_machine None p) → IsNew b.value p)
opened b m p = (
  λ h. record { fresh = h; machine = refl },
  λ h. record { fresh = h; machine = refl },
  λ h. h.fresh,
  λ h. record { fresh = h; machine = refl },
  λ h. h.fresh,
)

opened_not : (b : Box BoardValue Global) (m : Box PlatformValue Global) (p : PolledView)
    → ¬ (IsNewIn (Board b) (with_machine (Some m.value) p))
    × ¬ (IsNewIn (Machine m) (with_machine None p))
    × ¬ (IsNewOn b.value (with_machine (Some m.value) p))
opened_not b m p = (
  λ h. apart-by many h.machine refl,
  λ h. apart-by many h.machine refl,
  λ h. apart-by many h.machine refl,
)

-- What is left --------------------------------------------------------------------------------

-- a call changes the firmware, and leaves the words of the place
left : (m : PlatformValue) (p q : PolledView) (core : ℕ) (call : FwCall)
    → (IsNext p core call q
    → IsNextIn (with_machine (Some m) p) core call (with_machine (Some m) q))
    × (IsNextIn (with_machine (Some m) p) core call (with_machine (Some m) q)
    → IsNext p core call q)
left m p q core call = (λ h. record { next = h; machine = refl }, λ h. h.next)
