-- Firmware and power controller as one: what both keep, and what an exchange leaves of it.
use Rattle.std.specs.Prelude.{◌&&◌, ◌==◌, ◌≡◌, Bool, if◌then◌else◌, is_some, nat_le, None, not}
use Rattle.std.specs.Prelude.{Option, option_and_then, Some, ℕ}
use Rattle.psci_board.specs.Board.{BoardValue, IsBoard}
use Rattle.psci_board.specs.declared.draft.Core.{Core}
use Rattle.psci_messages.specs.Message.{MessageValue}
use Rattle.psci_ctl.specs.Seen.{ControllerValue, seen as seen_controller}
use Rattle.psci_ctl_spec.specs.declared.call.CtlCall.TheVariants as asked
use Rattle.psci_ctl_spec.specs.declared.delivery.Delivery.TheVariants as deliveries
use Rattle.psci_ctl_spec.specs.declared.reply.CtlReply.{CtlReply}
use Rattle.psci_ctl_spec.specs.declared.reply.CtlReply.TheVariants as replied
use Rattle.psci_ctl_spec.specs.Replies as changes
use Rattle.psci_ctl_spec.specs.History.{IsOfBoard}
use Rattle.psci_messages.specs.declared.start.Start.{Start}
use Rattle.psci_ctl_spec.specs.Replies.{is_this_life, last_start, reply}
use Rattle.psci_ctl_spec.specs.Values as controlled
use Rattle.psci_fw.specs.Reactions.{FirmwareValue, seen as seen_firmware}
use Rattle.psci_fw_spec.specs.declared.call.FwCall.{FwCall}
use Rattle.psci_fw_spec.specs.declared.call.FwCall.TheVariants as calls
use Rattle.psci_fw_spec.specs.declared.reply.FwReply.{FwReply}
use Rattle.psci_fw_spec.specs.declared.reply.FwReply.TheVariants as replies
use Rattle.psci_fw_spec.specs.Effects as leaves
use Rattle.psci_fw_spec.specs.Answer.{answer}
use Rattle.psci_fw_spec.specs.Phases.{is_running}
use Rattle.psci_fw_spec.specs.Values as kept
use Rattle.psci_guest.specs.declared.arrival.Arrival.{Arrival}

-- Both, as contracts see them.
pub record PairValue : Type 0 where
  pub firmware : FirmwareValue
  pub controller : ControllerValue

-- the board of both
abbrev pub board_of : PairValue → BoardValue
board_of p = p.firmware.board

-- What holds of both.
pub record IsPair (p : PairValue) : Type 0 where
  pub board : IsBoard (board_of p)
  pub same : p.controller.board ≡ board_of p

-- What both keep.
pub record Kept : Type 0 where
  pub firmware : kept.Values
  pub controller : controlled.Values

-- what is kept by both
abbrev pub kept_by : PairValue → Kept
kept_by p = record {
  firmware = seen_firmware p.firmware;
  controller = seen_controller p.controller;
}

-- An exchange -------------------------------------------------------------------------------------

-- the firmware takes the acknowledgement that a reply has
abbrev pub with_ack : BoardValue → CtlReply → kept.Values → kept.Values
with_ack b (replied.Delivery (deliveries.Applied a)) v =
    leaves.after b 0 (calls.Take a) (answer b v 0 (calls.Take a)) v
with_ack b (replied.Delivery deliveries.Ignored) v = v
with_ack b (replied.Kick k) v = v

-- a message is delivered, if there is one, and its acknowledgement taken
abbrev pub with_message : BoardValue → Option MessageValue → Kept → Kept
with_message b None k = k
with_message b (Some m) k = record {
  firmware = with_ack b (reply b k.controller (asked.Deliver m)) k.firmware;
  controller = changes.after b (asked.Deliver m) (reply b k.controller (asked.Deliver m))
      k.controller;
}

-- the message that a reply has
abbrev pub message_of : FwReply → Option MessageValue
message_of (replies.Out o) = o.message
message_of (replies.Taken taken) = None
message_of (replies.Fault fault) = None

-- a core asks the firmware, which replies so
abbrev pub with_call : BoardValue → ℕ → FwCall → FwReply → Kept → Kept
with_call b c call r k = with_message b (message_of r) (record {
  firmware = leaves.after b c call r k.firmware;
  controller = k.controller;
})

-- what the firmware of a board sends is for a core of it, whatever the firmware keeps
abbrev pub SendsSound : BoardValue → Type 0
SendsSound b = (v : kept.Values) (c : ℕ) (call : FwCall) (m : MessageValue)
    → message_of (answer b v c call) ≡ Some m → IsOfBoard b m

-- What an exchange leaves: both, of the same board, and this of what both kept.
pub record IsLeft (old new : PairValue) (k : Kept) : Type 0 where
  pub both : IsPair new
  pub board : board_of new ≡ board_of old
  pub kept : kept_by new ≡ k

-- A core at its start -----------------------------------------------------------------------------

-- a core runs, in this life
abbrev pub runs_in : Kept → ℕ → ℕ → Bool
runs_in k life c = is_this_life k.controller.life life && is_running (k.firmware.phase c)

-- a core stands: it runs in no life
abbrev pub stands_in : Kept → ℕ → Bool
stands_in k c = not (is_some k.controller.life && is_running (k.firmware.phase c))

-- the firmware knows of this start of a core
abbrev pub is_known : Kept → ℕ → Start → Bool
is_known k c s = s.life == k.firmware.life && nat_le s.number (k.firmware.known c)

-- the start by which a core is to enter: its last one, unless the firmware knows of it
abbrev pub waiting_in : Kept → ℕ → Option Start
waiting_in k c =
    option_and_then (λ s. if is_known k c s then None else Some s) (last_start k.controller c)

-- what is told of a core that entered by this start, and was replied so
abbrev pub arrival_of : Core → Start → FwReply → Option Arrival
arrival_of core s (replies.Out o) = Some (record { core = core; start = s; outcome = o })
arrival_of core s (replies.Taken taken) = None
arrival_of core s (replies.Fault fault) = None

-- what the firmware replies to a core that enters by this start
abbrev pub entry_reply : PairValue → ℕ → Start → FwReply
entry_reply p c s = answer (board_of p) (seen_firmware p.firmware) c (calls.Enter s)
