-- The line of an event in a record.
use Rattle.std.specs.Prelude.{ℕ, false, ◌/◌, ◌%◌, ◌==◌, if◌then◌else◌, List, ◌++◌, ◌∷◌, []}
use Rattle.std.specs.Prelude.{codes, Option, Some, None}
use Rattle.std.specs.Fmt.{decimal, signed_decimal, digits, digit_glyph}
use Rattle.psci_abi.specs.declared.registers.Regs.{Regs}
use Rattle.psci_record.specs.declared.digits.Radix.{Radix}
use Rattle.psci_record.specs.declared.digits.Radix.TheVariants.{Decimal, Hexadecimal}
use Rattle.psci_record.specs.declared.line.Begun.{Begun}
use Rattle.psci_record.specs.declared.line.Named.{Named}
use Rattle.psci_record.specs.declared.line.Named.TheVariants.{Mpidr, Number}
use Rattle.psci_record.specs.declared.line.Next.{Next}
use Rattle.psci_record.specs.declared.line.Next.TheVariants as nexts
use Rattle.psci_record.specs.declared.line.Outcome.{Outcome}
use Rattle.psci_record.specs.declared.line.Polled.{Polled}
use Rattle.psci_record.specs.declared.line.Polled.TheVariants as polls
use Rattle.psci_record.specs.declared.line.Reply.{Reply}
use Rattle.psci_record.specs.declared.line.Reply.TheVariants as replies
use Rattle.psci_record.specs.declared.line.Started.{Started}
use Rattle.psci_record.specs.declared.line.Taken.{Taken}
use Rattle.psci_record.specs.declared.line.Taken.TheVariants as takes

-- Digits ---------------------------------------------------------------------------------------

-- the base
abbrev pub base : Radix → ℕ
base Decimal = 10
base Hexadecimal = 16

-- how many digits a number of 64 bits has at most
abbrev pub places : Radix → ℕ
places Decimal = 20
places Hexadecimal = 16

-- Words ----------------------------------------------------------------------------------------

-- a register: lower-case hexadecimal digits without leading zeros
abbrev pub hexadecimal : ℕ → List ℕ
hexadecimal n = codes "0x" ++ digits 16 false n

-- a core: the MPIDR that it reads, or its number
abbrev pub core_text : Named → List ℕ
core_text (Mpidr word) = hexadecimal word
core_text (Number number) = decimal number

-- the two digits of a byte
abbrev pub byte_text : ℕ → List ℕ
byte_text byte = digit_glyph false (byte / 16) ∷ digit_glyph false (byte % 16) ∷ []

-- a byte before the text of those behind it: a zero is left out where nothing follows
abbrev pub with_byte : ℕ → List ℕ → List ℕ
with_byte byte [] = if byte == 0 then [] else byte_text byte
with_byte byte (code ∷ more) = byte_text byte ++ (code ∷ more)

-- the bytes of a frame, without the zero bytes at its end
unfoldable pub bytes_text : List ℕ → List ℕ
bytes_text [] = []
bytes_text (byte ∷ bytes) = with_byte byte (bytes_text bytes)

-- at least one byte: of an empty slot its first
abbrev pub some_byte : List ℕ → List ℕ
some_byte [] = codes "00"
some_byte (code ∷ more) = code ∷ more

-- a frame
abbrev pub frame_text : List ℕ → List ℕ
frame_text frame = some_byte (bytes_text frame)

-- Answers --------------------------------------------------------------------------------------

-- a refusal, by its number
abbrev pub refused_text : ℕ → List ℕ
refused_text number = codes "refused " ++ decimal number

-- what a core does next
abbrev pub next_text : Next → List ℕ
next_text (nexts.Return code) = codes "return " ++ signed_decimal code
next_text nexts.Stop = codes "stop"
next_text (nexts.Enter address context) =
    codes "enter " ++ (hexadecimal address ++ (codes " " ++ hexadecimal context))
next_text nexts.Resume = codes "resume"
next_text (nexts.Refused number) = refused_text number

-- the message that is sent, if one is
abbrev pub message_text : Option (List ℕ) → List ℕ
message_text None = []
message_text (Some frame) = codes " " ++ frame_text frame

-- the answer to a call or an entry
abbrev pub outcome_text : Outcome → List ℕ
outcome_text o = next_text o.next ++ message_text o.message

-- the answer to a poll
abbrev pub polled_text : Polled → List ℕ
polled_text (polls.Code code) = codes "return " ++ signed_decimal code
polled_text (polls.Refused number) = refused_text number

-- what became of an acknowledgement
abbrev pub taken_text : Taken → List ℕ
taken_text takes.Used = codes "used"
taken_text takes.Old = codes "old"
taken_text (takes.Refused number) = refused_text number

-- what the power controller did
abbrev pub reply_text : Reply → List ℕ
reply_text (replies.Acknowledged frame) = frame_text frame
reply_text (replies.Started number) = codes "started " ++ decimal number
reply_text replies.Ignored = codes "ignored"
reply_text (replies.Refused number) = refused_text number

-- Lines ----------------------------------------------------------------------------------------

-- a call: its four registers, and the answer
abbrev pub call_text : Named → Regs → Outcome → List ℕ
call_text core regs outcome =
    codes "call " ++ (core_text core ++ (codes " " ++ (hexadecimal regs.x0 ++ (codes " "
    ++ (hexadecimal regs.x1 ++ (codes " " ++ (hexadecimal regs.x2 ++ (codes " "
    ++ (hexadecimal regs.x3 ++ (codes " -> " ++ outcome_text outcome))))))))))

-- a poll: three registers, and the answer
abbrev pub poll_text : Named → Regs → Polled → List ℕ
poll_text core regs polled =
    codes "poll " ++ (core_text core ++ (codes " " ++ (hexadecimal regs.x0 ++ (codes " "
    ++ (hexadecimal regs.x1 ++ (codes " " ++ (hexadecimal regs.x2 ++ (codes " -> "
    ++ polled_text polled))))))))

-- an entry: life, number and cause of its start, and the answer
abbrev pub enter_text : Named → Started → Outcome → List ℕ
enter_text core started outcome =
    codes "enter " ++ (core_text core ++ (codes " " ++ (decimal started.life ++ (codes " "
    ++ (decimal started.number ++ (codes " " ++ (decimal started.cause ++ (codes " -> "
    ++ outcome_text outcome))))))))

-- where a core begins, with what, and in which state
abbrev pub begins_text : Named → Begun → List ℕ
begins_text core begun =
    codes "begins " ++ (core_text core ++ (codes " " ++ (hexadecimal begun.address ++ (codes " "
    ++ (hexadecimal begun.x0 ++ (codes " " ++ (hexadecimal begun.spsr ++ (codes " "
    ++ hexadecimal begun.sctlr))))))))

-- a wake-up in the stop of this start, and what the power controller did
abbrev pub wake_text : Named → ℕ → Reply → List ℕ
wake_text core number reply =
    codes "wake " ++ (core_text core ++ (codes " " ++ (decimal number ++ (codes " -> "
    ++ reply_text reply))))

-- a core that goes back to its caller
abbrev pub leaves_text : Named → ℕ → List ℕ
leaves_text core x0 = codes "leaves " ++ (core_text core ++ (codes " " ++ hexadecimal x0))

-- an acknowledgement that the firmware got, and what became of it
abbrev pub take_text : List ℕ → Taken → List ℕ
take_text frame taken = codes "take " ++ (frame_text frame ++ (codes " -> " ++ taken_text taken))

-- a core in its stop of this start
abbrev pub stands_text : Named → ℕ → List ℕ
stands_text core number = codes "stands " ++ (core_text core ++ (codes " " ++ decimal number))

-- a message that the power controller got, and what it did
abbrev pub deliver_text : List ℕ → Reply → List ℕ
deliver_text frame reply =
    codes "deliver " ++ (frame_text frame ++ (codes " -> " ++ reply_text reply))

-- a reset of a core, and what the power controller did
abbrev pub reset_text : Named → Reply → List ℕ
reset_text core reply = codes "reset " ++ (core_text core ++ (codes " -> " ++ reply_text reply))

-- an event and its line feed
abbrev pub line_of : List ℕ → List ℕ
line_of text = text ++ 10 ∷ []
