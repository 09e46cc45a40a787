-- Which message is sent once more.
use Rattle.std.specs.Prelude.{ℕ, Bool, ◌==◌, ◌&&◌, if◌then◌else◌, Option, None, Some}
use Rattle.psci_messages.specs.Message.{MessageValue}
use Rattle.psci_messages.specs.Slots.{is_kind}
use Rattle.psci_fw.specs.Reactions.{FirmwareValue, seen}
use Rattle.psci_fw_state.specs.Seen.{message_shown}

-- what is outstanding of the core of this number, or of the system at the number of cores
abbrev pub outstanding_in : FirmwareValue → ℕ → Option MessageValue
outstanding_in f number = message_shown f.board (seen f) number

-- of two messages of one slot, both are the same: by what an acknowledgement names
abbrev pub is_same : MessageValue → MessageValue → Bool
is_same last m = is_kind last.kind m.kind && (last.life == m.life && last.number == m.number)

-- what is sent once more, by what was outstanding before and what is: a message that still is
abbrev pub still : Option MessageValue → Option MessageValue → Option MessageValue
still None now = None
still (Some last) None = None
still (Some last) (Some m) = if is_same last m then Some m else None
