-- Why what is in a place may go to another core, layer by layer; and so may the slot: any thread
-- may free the block.
use Rattle.std.specs.Prelude.{None, Option, Some}
use Rattle.std.specs.Global.{Global}
use Rattle.std.proofs.Common.{◌==◌, ◌∙◌, ◌≡◌, Bool, ap, cond, false, refl, sym, true, ℕ}
use Rattle.std.proofs.Crossing as heap
use Rattle.std.proofs.lemmas.Bool.{eqb-true}
use Rattle.std_alloc.proofs.SendSync.{lies, quiet}
use Rattle.std_heap.proofs.Global.TheSendSync as handle
use base.Shift.{Keyless}
use denote.Memory.{lone}
use denote.Param.Send.{AllSend, IsSend, IsSync, owning_send, sendable, struct_send}
use denote.RawPtr.{Ptr}
use denote.Struct.Owning.{fields, shape, to}
use denote.Struct.Struct.{exits_of}
use mir.Raw.{raw}
use Rattle.psci_board.proofs.board.Board.TheSendSync as board
use Rattle.psci_messages.specs.declared.start.Cause.{Cause}
use Rattle.psci_messages.specs.declared.start.Cause.TheVariants as causes
use Rattle.psci_messages.specs.declared.start.Start.{Start}
use Rattle.psci_messages.proofs.slots.Slots.TheSendSync as slots
use Rattle.psci_ctl.specs.contracts.controller.Controller as Controller
use Rattle.psci_ctl.proofs.level.Level.TheSendSync as level
use Rattle.psci_ctl.proofs.row.CoreRow.TheSendSync as controller_row
use Rattle.psci_fw_state.proofs.row.CoreRow.TheSendSync as row
use Rattle.psci_fw.specs.contracts.firmware.Firmware as Firmware
use Rattle.psci_platform.specs.contracts.description.Description as Description
use Rattle.psci_platform.specs.contracts.platform.Platform as Platform
use Rattle.psci_enter.specs.declared.order.Stop.{Stop}
use Rattle.psci_enter.specs.declared.post.Post.{Post}
use Rattle.psci_enter.specs.declared.side.FirmwareSide.{FirmwareSide}
use Rattle.psci_guest.specs.contracts.guest.GuestPower as Power
use Rattle.psci_guest.specs.contracts.pair.Pair as Pair
use Rattle.psci_status.specs.contracts.polled.PolledFirmware as Polled
use Rattle.psci_status.proofs.seats.Reader.TheSendSync as reader
use Rattle.psci_status.proofs.seats.StatusWords.TheSendSync as words
use Rattle.psci_status.proofs.seats.Writer.TheSendSync as writer
use Rattle.psci_ffi.specs.Codes.{cause_said}
use Rattle.psci_ffi.specs.Controllers.{cause_number}
use Rattle.psci_ffi.specs.PortShown.{Keeps, post_given, side_by, side_given, side_with, start_given}
use Rattle.psci_ffi.specs.PortShown.{stop_given}
use Rattle.psci_ffi.specs.Slots.{owns_kept}
use Rattle.psci_ffi.specs.contracts.naming.Common as Common
use Rattle.psci_ffi.specs.contracts.guest.Guest as Guest
use Rattle.psci_ffi.specs.contracts.held.Held as Held
use Rattle.psci_ffi.specs.contracts.poller.Watch as Watch
use Rattle.psci_ffi.specs.declared.port_core.PortCore.{PortCore}
use Rattle.psci_ffi.proofs.SlotEmpty.{Form, S, X, slot}

-- Values --------------------------------------------------------------------------------------

firmware : IsSend Firmware.the_row
firmware = search (
  sendable,
  heap.crosses,
  board.the_send,
  slots.the_send,
  row.the_send,
) depth 40 fits 20000

polled : IsSend Polled.the_row
polled = search (sendable, heap.crosses, firmware, writer.the_field_send) depth 40 fits 20000

description_send : IsSend Description.the_row
description_send = search (sendable, heap.crosses) depth 40 fits 20000

description_sync : IsSync Description.the_row
description_sync = search (sendable, heap.crosses) depth 40 fits 20000

machine_send : IsSend Platform.the_row
machine_send = search (sendable, heap.crosses, description_send, board.the_send) depth 40 fits 20000

machine_sync : IsSync Platform.the_row
machine_sync = search (sendable, heap.crosses, description_sync, board.the_sync) depth 40 fits 20000

common_send : IsSend Common.the_row
common_send = search (sendable, heap.crosses, board.the_send, machine_send, words.the_field_send)
    depth 40 fits 20000

common_sync : IsSync Common.the_row
common_sync = search (sendable, heap.crosses, board.the_sync, machine_sync, words.the_field_sync)
    depth 40 fits 20000

pub held : IsSend Held.the_row
held = search (sendable, heap.crosses, polled, common_send, common_sync) depth 40 fits 20000

pub watch : IsSend Watch.the_row
watch = search (sendable, heap.crosses, common_send, common_sync, reader.the_field_send)
    depth 40 fits 20000

pub controller : IsSend Controller.the_row
controller = search (
  sendable,
  heap.crosses,
  board.the_send,
  level.the_send,
  controller_row.the_send,
) depth 40 fits 20000

pair : IsSend Pair.the_row
pair = search (sendable, heap.crosses, firmware, controller) depth 40 fits 20000

power : IsSend Power.the_row
power = search (sendable, heap.crosses, pair) depth 40 fits 20000

pub guest : IsSend Guest.the_row
guest = search (sendable, heap.crosses, power, board.the_send, machine_send) depth 40 fits 20000

-- Slots ---------------------------------------------------------------------------------------

module _ (F : Form) (inner : IsSend (X F)) where
  keyless : (a : Global) (p : Ptr) (k : Option (X F).Denot) → Keyless (owns_kept (X F) a p k)
  keyless a p None = tt
  keyless a p (Some x) =
      (lies (X F) inner p x, heap.frees.frees a (raw (lone (X F).mir)) p)

  pub crosses : IsSend (S F)
  crosses =
      let all : AllSend (fields (slot F)) = (search sendable, (handle.the_field_send, tt)) in
      owning_send (slot F) all
      (λ s. keyless (F.parts s).1 (F.parts s).0 (F.parts s).2)
      (λ k. quiet (to (slot F)) (exits_of k (fields (slot F)))
      ((struct_send (shape (slot F)) all).leaving k))

-- Port kept ---------------------------------------------------------------------------------------
-- What C holds of a core says all of its monitor but where it is, how it stands and its start.

-- a number that says a cause is the number of it
abbrev number_if : ℕ → Option Cause → ℕ
number_if n None = n
number_if n (Some c) = cause_number c

one : (n k : ℕ) (c : Cause) (o : Option Cause) → cause_number c ≡ k → n ≡ number_if n o
    → n ≡ number_if n (cond (n == k) (Some c) o)
one n k c o e others = by (n == k) refl
  where
    by : (t : Bool) → (n == k) ≡ t → n ≡ number_if n (cond t (Some c) o)
    by true is = eqb-true n k is ∙ sym e
    by false is = others

said : (n : ℕ) → n ≡ number_if n (cause_said n)
said n = one n 0 causes.Boot _ refl (one n 1 causes.On _ refl (one n 2 causes.Wake _ refl
    (one n 3 causes.Reset None refl refl)))

number_of : (n : ℕ) (c : Cause) → cause_said n ≡ Some c → n ≡ cause_number c
number_of n c h = said n ∙ ap (number_if n) h

-- what a monitor says, if there is one
abbrev say : (FirmwareSide → ℕ) → Option FirmwareSide → ℕ
say f None = 0
say f (Some s) = f s

by_said : (held : PortCore) (post : Option Post) (cause : Option Cause) (stop : Option Stop)
    → cause_said held.cause ≡ cause → (s : FirmwareSide)
    → side_by held post cause stop ≡ Some s → Keeps held s
by_said held None cause stop e s h = absurd (cc)
by_said held (Some post) None stop e s h = absurd (cc)
by_said held (Some post) (Some cause) None e s h = absurd (cc)
by_said held (Some post) (Some cause) (Some stop) e s h = record {
  core = ap (say (λ x. x.core.number)) h;
  used = ap (say (λ x. x.used)) h;
  told = ap (say (λ x. x.told)) h;
  cause = number_of held.cause cause e ∙ ap (say (λ x. cause_number x.cause)) h;
}

by_start : (held : PortCore) (start : Option Start) (s : FirmwareSide)
    → side_with held start ≡ Some s → Keeps held s
by_start held None s h = absurd (cc)
by_start held (Some start) s h = by_said held (post_given held.post start)
    (cause_said held.cause) (stop_given held.stop) refl s h

-- what C holds keeps what it says
pub keeps : (held : PortCore) (s : FirmwareSide) → side_given held ≡ Some s → Keeps held s
keeps held s h = by_start held (start_given held.start) s h
