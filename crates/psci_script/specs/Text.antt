-- The answer line of an event.
use Rattle.std.specs.Prelude.{◌++◌, ◌∷◌, [], codes, false, flat_map, List, None, Option, Some, ℕ}
use Rattle.std.specs.Fmt.{decimal, signed_decimal, digits}
use Rattle.psci_world_spec.specs.psci_fw_spec.declared.outcome.Act.{Act}
use Rattle.psci_world_spec.specs.psci_fw_spec.declared.outcome.Act.TheVariants.{Enter, Resume}
use Rattle.psci_world_spec.specs.psci_fw_spec.declared.outcome.Act.TheVariants.{Return, Stop}
use Rattle.psci_world_spec.specs.psci_messages.declared.part.Part.{Part}
use Rattle.psci_world_spec.specs.psci_messages.declared.kind.Kind.{Kind}
use Rattle.psci_world_spec.specs.psci_messages.declared.kind.Kind.TheVariants.{Down, Off, Reset}
use Rattle.psci_world_spec.specs.psci_messages.declared.kind.Kind.TheVariants.{Start}
use Rattle.psci_world_spec.specs.psci_messages.declared.taken.Taken.{Taken}
use Rattle.psci_world_spec.specs.psci_messages.declared.taken.Taken.TheVariants.{Used, Old}
use Rattle.psci_world_spec.specs.psci_messages.Message.{AckValue, stale_text}
use Rattle.psci_world_spec.specs.declared.said.Sent.{Sent}
use Rattle.psci_world_spec.specs.declared.said.Said.{Said}
use Rattle.psci_world_spec.specs.declared.said.Said.TheVariants.{Absent, Acked, Fw, Ignored}
use Rattle.psci_world_spec.specs.declared.said.Said.TheVariants.{Kick, Taken as Took}

-- an address or a context id: lower-case hexadecimal digits without leading zeros
abbrev pub hexadecimal : ℕ → List ℕ
hexadecimal n = codes "0x" ++ digits 16 false n

-- what the core does next
abbrev pub act_text : Act → List ℕ
act_text (Return code) = codes "return " ++ signed_decimal code.0
act_text Stop = codes "stop"
act_text (Enter address context) =
    codes "enter " ++ (hexadecimal address ++ (codes " " ++ hexadecimal context))
act_text Resume = codes "resume 0"

-- the word of a kind of message
abbrev pub kind_text : Kind → List ℕ
kind_text Down = codes "down"
kind_text Start = codes "start"
kind_text Off = codes "off"
kind_text Reset = codes "reset"

-- a part, after a space: level, depth and generation
abbrev pub part_text : Part → List ℕ
part_text p =
    codes " " ++ (decimal p.level ++ (codes ":" ++ (decimal p.depth ++ (codes ":"
    ++ decimal p.generation))))

-- the parts of a message, where it has some
abbrev pub parts_text : List Part → List ℕ
parts_text [] = []
parts_text (p ∷ ps) = codes " parts" ++ flat_map part_text (p ∷ ps)

-- a message, with how many were sent before it
abbrev pub sent_text : Sent → List ℕ
sent_text s =
    codes "#" ++ (decimal s.index ++ (codes " " ++ (kind_text s.message.kind ++ (codes " "
    ++ (decimal s.message.core.number ++ (codes " life " ++ (decimal s.message.life
    ++ (codes " number " ++ (decimal s.message.number ++ parts_text s.message.parts)))))))))

-- the message after the act, where one was sent
abbrev pub message_text : Option Sent → List ℕ
message_text None = []
message_text (Some sent) = codes " " ++ sent_text sent

-- what an acknowledgement says, after its number
abbrev pub ack_text : AckValue → List ℕ
ack_text ack = codes "applied " ++ (decimal ack.applied ++ stale_text ack.stale)

-- what became of an acknowledgement
abbrev pub taken_text : Taken → List ℕ
taken_text Used = codes "used"
taken_text Old = codes "old"

-- what is said of an event
abbrev pub said_text : Said → List ℕ
said_text (Fw act sent) = act_text act ++ message_text sent
said_text (Kick start) = codes "started " ++ decimal start.number
said_text (Acked index ack) =
    codes "ack #" ++ (decimal index ++ (codes " " ++ ack_text ack))
said_text (Took taken) = taken_text taken
said_text Ignored = codes "ignored"
said_text Absent = codes "absent"

-- the line of the event of this number
abbrev pub answer_line : ℕ → Said → List ℕ
answer_line number said = decimal number ++ (codes " " ++ (said_text said ++ 10 ∷ []))
