-- What a core's monitor asks of the firmware in a place, what C is told of it, and which message C
-- sends once more.
use Rattle.std.specs.Prelude.{if◌then◌else◌, ◌&&◌, ◌==◌, Bool, None, Option, Some, false, nat_lt}
use Rattle.std.specs.Prelude.{option_map, true, ℕ}
use Rattle.psci_abi.specs.Calls.{request_of}
use Rattle.psci_abi.specs.declared.registers.Regs.{Regs}
use Rattle.psci_fw.specs.Reactions.{seen}
use Rattle.psci_fw_spec.specs.Answer.{answer}
use Rattle.psci_fw_spec.specs.declared.call.FwCall.{FwCall}
use Rattle.psci_fw_spec.specs.declared.call.FwCall.TheVariants as calls
use Rattle.psci_fw_spec.specs.declared.reply.FwReply.{FwReply}
use Rattle.psci_fw_spec.specs.declared.reply.FwReply.TheVariants as replies
use Rattle.psci_messages.specs.declared.start.Start.{Start}
use Rattle.psci_enter.specs.Orders.{called, entered, is_suspending}
use Rattle.psci_enter.specs.Side.{replied}
use Rattle.psci_enter.specs.declared.post.Post.{Post}
use Rattle.psci_enter.specs.declared.post.Post.TheVariants as posts
use Rattle.psci_enter.specs.declared.side.FirmwareSide.{FirmwareSide}
use Rattle.psci_board.specs.Board.{cores}
use Rattle.psci_enter.specs.Again.{outstanding_in}
use Rattle.psci_fw_spec.specs.declared.fault.FwFault.TheVariants.{NoCore}
use Rattle.psci_link.specs.Frame.{kind_code}
use Rattle.psci_messages.specs.Message.{MessageValue}
use Rattle.psci_ffi.specs.declared.port_core.PortCore.{PortCore}
use Rattle.psci_ffi.specs.declared.port_core.PortOrders.{PortOrders}
use Rattle.psci_ffi.specs.Codes.{no_firmware, no_side, out_of_order, refusal}
use Rattle.psci_ffi.specs.Namings.{PlaceValue}
use Rattle.psci_ffi.specs.PortShown.{orders_refused, orders_shown, side_shown, start_kept}
use Rattle.psci_ffi.specs.PortShown.{with_asked}
use Rattle.psci_ffi.specs.Shown.{called_in, frame_shown, no_frame, told_in}
use Rattle.psci_ffi.specs.Slots.{Kept}
use Rattle.psci_ffi.specs.declared.answer.SomeFrame.{SomeFrame}
use Rattle.psci_ffi.specs.declared.port_calls.PortSent.{PortSent}

-- the core of what C holds
abbrev pub core_in : Option FirmwareSide → ℕ
core_in None = 0
core_in (Some s) = s.core.number

-- what the firmware in a place replies to this call of a core
abbrev pub reply_in : PlaceValue → FirmwareSide → FwCall → FwReply
reply_in f s call =
    answer f.polled.firmware.board (seen f.polled.firmware) s.core.number call

-- what a reply leaves of what C holds, by whether the call suspends: a refusal leaves all
abbrev pub reply_left : PortCore → Bool → FwReply → FirmwareSide → PortCore
reply_left old suspended (replies.Out o) s =
    side_shown (replied suspended (replies.Out o) s)
reply_left old suspended (replies.Taken taken) s = old
reply_left old suspended (replies.Fault fault) s = old

-- Calls ----------------------------------------------------------------------------------------

-- a core is in the normal world, or in the monitor by a call of it
abbrev pub is_running : Post → Bool
is_running posts.Waiting = false
is_running (posts.Entering start) = false
is_running posts.Running = true
is_running posts.Leaving = false
is_running posts.Armed = false
is_running posts.Woken = false

-- the call of the firmware in a place for these registers, if the core runs that has them
abbrev pub port_call : Kept → Option FirmwareSide → Regs → Option FwCall
port_call k None regs = None
port_call k (Some s) regs = if is_running s.post then Some (called_in k regs) else None

-- what C is told of it by a core that runs: what it leaves with goes by its own registers
abbrev pub call_shown : Kept → FirmwareSide → Regs → PortOrders
call_shown None s regs = orders_refused no_firmware
call_shown (Some f) s regs = with_asked (told_in (Some f) regs)
    (orders_shown (called s.cause regs (reply_in f s (called_in (Some f) regs))))

-- and what is left then of what C holds
abbrev pub call_kept : Kept → PortCore → FirmwareSide → Regs → PortCore
call_kept None old s regs = old
call_kept (Some f) old s regs = reply_left old (is_suspending (request_of regs))
    (reply_in f s (called_in (Some f) regs)) s

-- what C is told by what it holds of the core
abbrev pub port_called : Kept → Option FirmwareSide → Regs → PortOrders
port_called k None regs = orders_refused no_side
port_called k (Some s) regs =
    if is_running s.post then call_shown k s regs else orders_refused out_of_order

-- what is left of it
abbrev pub call_left : Kept → PortCore → Option FirmwareSide → Regs → PortCore
call_left k old None regs = old
call_left k old (Some s) regs = if is_running s.post then call_kept k old s regs else old

-- Entries --------------------------------------------------------------------------------------

-- the entry of a core, if it took a start up
abbrev pub port_entry : Option FirmwareSide → Option FwCall
port_entry None = None
port_entry (Some s) = option_map (λ start. calls.Enter start) (start_kept s.post)

-- what C is told of it by a core that took this start up
abbrev pub entry_shown : Kept → FirmwareSide → Option Start → PortOrders
entry_shown k s None = orders_refused out_of_order
entry_shown None s (Some start) = orders_refused no_firmware
entry_shown (Some f) s (Some start) =
    orders_shown (entered s.cause (reply_in f s (calls.Enter start)))

-- and what is left then of what C holds
abbrev pub entry_kept : Kept → PortCore → FirmwareSide → Option Start → PortCore
entry_kept k old s None = old
entry_kept None old s (Some start) = old
entry_kept (Some f) old s (Some start) = reply_left old false (reply_in f s (calls.Enter start)) s

-- what C is told by what it holds of the core
abbrev pub port_entered : Kept → Option FirmwareSide → PortOrders
port_entered k None = orders_refused no_side
port_entered k (Some s) = entry_shown k s (start_kept s.post)

-- what is left of it
abbrev pub entry_left : Kept → PortCore → Option FirmwareSide → PortCore
entry_left k old None = old
entry_left k old (Some s) = entry_kept k old s (start_kept s.post)

-- What C holds ---------------------------------------------------------------------------------

-- what C holds of what is outstanding: all that an acknowledgement names, or zeros
abbrev pub sent_shown : Option MessageValue → PortSent
sent_shown None = record { kind = 0; life = 0; number = 0 }
sent_shown (Some m) = record { kind = kind_code m.kind; life = m.life; number = m.number }

-- what C holds is of this message
abbrev pub is_sent : PortSent → MessageValue → Bool
is_sent last m = last.kind == kind_code m.kind && (last.life == m.life && last.number == m.number)

-- One look -------------------------------------------------------------------------------------

-- what is sent once more, by what C holds and what is outstanding
abbrev pub still_sent : PortSent → Option MessageValue → Option MessageValue
still_sent last None = None
still_sent last (Some m) = if is_sent last m then Some m else None

-- what is said: 0 nothing is outstanding, 1 a message is that was not before, 2 the same is
abbrev pub sent_number : PortSent → Option MessageValue → ℕ
sent_number last None = 0
sent_number last (Some m) = if is_sent last m then 2 else 1

-- In a place -----------------------------------------------------------------------------------

-- what is said of a core, or of the system at the number of cores
abbrev pub again_said : Kept → ℕ → PortSent → ℕ
again_said None number last = no_firmware
again_said (Some f) number last =
    if nat_lt (cores f.polled.firmware.board) number then refusal NoCore
    else sent_number last (outstanding_in f.polled.firmware number)

-- the frame that is sent once more
abbrev pub again_shown : Kept → ℕ → PortSent → SomeFrame
again_shown None number last = no_frame
again_shown (Some f) number last =
    if nat_lt (cores f.polled.firmware.board) number then no_frame
    else frame_shown (still_sent last (outstanding_in f.polled.firmware number))

-- what C holds then: a refusal leaves it
abbrev pub again_left : Kept → ℕ → PortSent → PortSent
again_left None number last = last
again_left (Some f) number last =
    if nat_lt (cores f.polled.firmware.board) number then last
    else sent_shown (outstanding_in f.polled.firmware number)
