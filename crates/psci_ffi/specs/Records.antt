-- What C gives of an event of a record, and what its line says.
use Rattle.std.specs.Prelude.{if◌then◌else◌, ◌==◌, ◌≡◌, ◌≤◌, List, None, Option, Some, length}
use Rattle.std.specs.Prelude.{nat_lt, pos, take, ℕ, ℤ}
use Rattle.std.specs.Int.{cast_signed, w32}
use Rattle.std.specs.Ordering.{int_eq}
use Rattle.psci_abi.specs.Calls.{low_half}
use Rattle.psci_record.specs.Texts.{line_of}
use Rattle.psci_record.specs.declared.line.Named.{Named}
use Rattle.psci_record.specs.declared.line.Named.TheVariants.{Mpidr, Number}
use Rattle.psci_record.specs.declared.line.Next.{Next}
use Rattle.psci_record.specs.declared.line.Next.TheVariants as nexts
use Rattle.psci_record.specs.declared.line.Outcome.{Outcome}
use Rattle.psci_record.specs.declared.line.Polled.{Polled}
use Rattle.psci_record.specs.declared.line.Polled.TheVariants as polls
use Rattle.psci_record.specs.declared.line.Reply.{Reply}
use Rattle.psci_record.specs.declared.line.Reply.TheVariants as replies
use Rattle.psci_record.specs.declared.line.Started.{Started}
use Rattle.psci_record.specs.declared.line.Taken.{Taken}
use Rattle.psci_record.specs.declared.line.Taken.TheVariants as takes
use Rattle.psci_ffi.specs.declared.answer.Answer.{Answer}
use Rattle.psci_ffi.specs.declared.answer.SomeFrame.{SomeFrame}
use Rattle.psci_ffi.specs.declared.controller_calls.ControllerStart.{ControllerStart}
use Rattle.psci_ffi.specs.declared.port_core.PortOrders.{PortOrders}
use Rattle.psci_ffi.specs.declared.record_line.RecordCore.{RecordCore}
use Rattle.psci_ffi.specs.declared.record_line.RecordLine.{RecordLine}
use Rattle.psci_ffi.specs.Codes.{no_firmware}
use Rattle.psci_ffi.specs.Shown.{numbers, plain}

-- What C reads is the line of an event of this text, of at most 256 bytes.
pub record Tells (to : RecordLine) (text : List ℕ) : Type 0 where
  pub most : to.length ≤ 256
  pub line : take to.length to.text ≡ line_of text

-- a core, by its MPIDR or its number
abbrev pub core_given : RecordCore → Named
core_given core = if core.is_mpidr then Mpidr core.word else Number core.word

-- Answers --------------------------------------------------------------------------------------

-- the bytes of a frame, if there is one
abbrev pub frame_given : SomeFrame → Option (List ℕ)
frame_given frame = if frame.some then Some frame.bytes else None

-- what a core does next, by the numbers of an answer
abbrev pub next_given : Answer → Next
next_given answer =
    if answer.what == 0 then nexts.Return answer.code
    else (if answer.what == 1 then nexts.Stop
    else (if answer.what == 2 then nexts.Enter answer.address answer.context
    else (if answer.what == 3 then nexts.Resume
    else nexts.Refused answer.what)))

-- the answer to a call or an entry
abbrev pub outcome_given : Answer → Outcome
outcome_given answer =
    record { next = next_given answer; message = frame_given answer.message }

-- what was answered to a poll
abbrev pub polled_given : ℤ → Polled
polled_given code =
    if int_eq code (pos no_firmware) then polls.Refused no_firmware else polls.Code code

-- a start
abbrev pub started_given : ControllerStart → Started
started_given start =
    record { life = start.life; number = start.number; cause = start.cause }

-- what became of an acknowledgement
abbrev pub taken_given : ℕ → Taken
taken_given what =
    if what == 0 then takes.Used else (if what == 1 then takes.Old else takes.Refused what)

-- what the power controller did with a message
abbrev pub acknowledged : ℕ → SomeFrame → Reply
acknowledged what ack =
    if nat_lt what 16
    then (if ack.some then replies.Acknowledged ack.bytes else replies.Ignored)
    else replies.Refused what

-- what it did at a wake-up or a reset, with this start or none
abbrev pub kicked : ℕ → ℕ → Reply
kicked what started =
    if nat_lt what 16
    then (if started == 0 then replies.Ignored else replies.Started started)
    else replies.Refused what

-- Orders ---------------------------------------------------------------------------------------

-- what orders answer: the code that a register's low half says, and not the register
abbrev pub answer_of : PortOrders → Answer
answer_of orders =
    if orders.next == 0 then numbers 0 (cast_signed w32 (low_half orders.x0)) 0 0 orders.message
    else (if orders.next == 1 then numbers 2 (pos 0) orders.address orders.x0 orders.message
    else (if orders.next == 2 then plain 3 orders.message
    else (if orders.next == 3 then plain 1 orders.message
    else plain orders.next orders.message)))
