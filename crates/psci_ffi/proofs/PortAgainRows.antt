-- What C keeps of a look decides as a reminder does.
use Rattle.std.specs.Prelude.{◌==◌, None, Option, Some, nat_lt}
use Rattle.std.proofs.Common.{◌≡◌, false, refl, ℕ}
use Rattle.psci_board.specs.Board.{cores}
use Rattle.psci_enter.specs.Again.{outstanding_in, still}
use Rattle.psci_messages.specs.declared.kind.Kind.{Kind}
use Rattle.psci_messages.specs.declared.kind.Kind.TheVariants as kinds
use Rattle.psci_messages.specs.Message.{MessageValue}
use Rattle.psci_messages.specs.Slots.{is_kind}
use Rattle.psci_link.specs.Frame.{kind_code}
use Rattle.psci_ffi.specs.declared.port_calls.PortSent.{PortSent}
use Rattle.psci_ffi.specs.Namings.{PlaceValue}
use Rattle.psci_ffi.specs.PortCalls.{again_left, again_shown, sent_shown, still_sent}
use Rattle.psci_ffi.specs.Shown.{frame_shown}

no_kind : (k : Kind) → (0 == kind_code k) ≡ false
no_kind kinds.Down = refl
no_kind kinds.Start = refl
no_kind kinds.Off = refl
no_kind kinds.Reset = refl

by_kind : (k l : Kind) → (kind_code k == kind_code l) ≡ is_kind k l
by_kind kinds.Down kinds.Down = refl
by_kind kinds.Down kinds.Start = refl
by_kind kinds.Down kinds.Off = refl
by_kind kinds.Down kinds.Reset = refl
by_kind kinds.Start kinds.Down = refl
by_kind kinds.Start kinds.Start = refl
by_kind kinds.Start kinds.Off = refl
by_kind kinds.Start kinds.Reset = refl
by_kind kinds.Off kinds.Down = refl
by_kind kinds.Off kinds.Start = refl
by_kind kinds.Off kinds.Off = refl
by_kind kinds.Off kinds.Reset = refl
by_kind kinds.Reset kinds.Down = refl
by_kind kinds.Reset kinds.Start = refl
by_kind kinds.Reset kinds.Off = refl
by_kind kinds.Reset kinds.Reset = refl

-- by what C holds after one look, the next one sends what a reminder would
as_reminded : (last now : Option MessageValue) → still_sent (sent_shown last) now ≡ still last now
as_reminded None None = refl
as_reminded None (Some m) = rw (no_kind m.kind) refl
as_reminded (Some last) None = refl
as_reminded (Some last) (Some m) = rw (by_kind last.kind m.kind) refl

-- so of two looks at a firmware the second sends the message that is outstanding at both
two_looks : (f g : PlaceValue) (number : ℕ) (last : PortSent)
    → nat_lt (cores f.polled.firmware.board) number ≡ false
    → nat_lt (cores g.polled.firmware.board) number ≡ false
    → again_shown (Some g) number (again_left (Some f) number last)
    ≡ frame_shown (still (outstanding_in f.polled.firmware number)
    (outstanding_in g.polled.firmware number))
two_looks f g number last e d = rw e (rw d (rw (as_reminded
    (outstanding_in f.polled.firmware number) (outstanding_in g.polled.firmware number)) refl))
