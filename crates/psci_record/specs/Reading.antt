-- What a line of a record says: the event, read from the line alone.
use Rattle.std.specs.Prelude.{ℕ, ℤ, pos, negsuc, suc, zero, Bool, not, ◌==◌, ◌&&◌, ◌*◌}
use Rattle.std.specs.Prelude.{◌+◌, ◌<◌, ◌^◌, ◌≡◌, if◌then◌else◌, List, ◌∷◌, [], codes}
use Rattle.std.specs.Prelude.{Option, Some, None, option_map, length, nat_lt, ⊤}
use Rattle.std.specs.List.{AllByRecursion}
use Rattle.std.specs.Char.{digit_value, is_digit}
use Rattle.std.specs.Str.Parse.{digits_value}
use Rattle.psci_abi.specs.declared.registers.Regs.{Regs}
use Rattle.psci_record.specs.declared.line.Begun.{Begun}
use Rattle.psci_record.specs.declared.line.Named.{Named}
use Rattle.psci_record.specs.declared.line.Named.TheVariants.{Mpidr, Number}
use Rattle.psci_record.specs.declared.line.Next.{Next}
use Rattle.psci_record.specs.declared.line.Next.TheVariants as nexts
use Rattle.psci_record.specs.declared.line.Outcome.{Outcome}
use Rattle.psci_record.specs.declared.line.Polled.{Polled}
use Rattle.psci_record.specs.declared.line.Polled.TheVariants as polls
use Rattle.psci_record.specs.declared.line.Reply.{Reply}
use Rattle.psci_record.specs.declared.line.Reply.TheVariants as replies
use Rattle.psci_record.specs.declared.line.Started.{Started}
use Rattle.psci_record.specs.declared.line.Taken.{Taken}
use Rattle.psci_record.specs.declared.line.Taken.TheVariants as takes
use Rattle.psci_record.specs.declared.line.TheConstants.{FRAME_BYTES}
use Rattle.psci_record.specs.Texts.{begins_text, call_text, deliver_text, enter_text, leaves_text}
use Rattle.psci_record.specs.Texts.{line_of, poll_text, reset_text, stands_text, take_text}
use Rattle.psci_record.specs.Texts.{wake_text}

-- Events ---------------------------------------------------------------------------------------

-- what a line may say
pub data Event : Type 0 where
  Call : Named → Regs → Outcome → Event
  Poll : Named → ℕ → ℕ → ℕ → Polled → Event
  Enter : Named → Started → Outcome → Event
  Leaves : Named → ℕ → Event
  Begins : Named → Begun → Event
  Take : List ℕ → Taken → Event
  Stands : Named → ℕ → Event
  Deliver : List ℕ → Reply → Event
  Wake : Named → ℕ → Reply → Event
  Reset : Named → Reply → Event

-- what is made of the text behind what was read
abbrev pub Rest : Type 0
Rest = List ℕ → Option Event

-- Words ----------------------------------------------------------------------------------------

-- what stands behind this word, where a text begins with it
abbrev pub behind : List ℕ → List ℕ → Option (List ℕ)
behind [] text = Some text
behind (code ∷ word) [] = None
behind (code ∷ word) (first ∷ text) = if code == first then behind word text else None

-- a text that begins with a word is read on behind it; another text is read otherwise
abbrev pub either : Option (List ℕ) → Rest → Option Event → Option Event
either (Some text) more other = more text
either None more other = other

-- a text that has to begin with a word
abbrev pub after : List ℕ → Rest → Rest
after word more text = either (behind word text) more None

-- a digit of this base, lower-case
abbrev pub is_small_digit : ℕ → ℕ → Bool
is_small_digit base code = is_digit code base && not (nat_lt 64 code && nat_lt code 91)

-- the digits that a text begins with
abbrev pub digits_in : ℕ → List ℕ → List ℕ
digits_in base [] = []
digits_in base (code ∷ text) =
    if is_small_digit base code then code ∷ digits_in base text else []

-- and what stands behind them
abbrev pub behind_digits : ℕ → List ℕ → List ℕ
behind_digits base [] = []
behind_digits base (code ∷ text) =
    if is_small_digit base code then behind_digits base text else code ∷ text

-- the value of digits, of which there has to be one
abbrev pub valued : ℕ → List ℕ → (ℕ → Rest) → Rest
valued base [] more text = None
valued base (code ∷ codes) more text = more (digits_value base (code ∷ codes)) text

-- a number in this base
unfoldable pub number_in : ℕ → (ℕ → Rest) → Rest
number_in base more text = valued base (digits_in base text) more (behind_digits base text)

-- a register, in hexadecimal
abbrev pub register_in : (ℕ → Rest) → Rest
register_in more = after (codes "0x") (number_in 16 more)

-- the negative of a number that is not 0
abbrev pub negated : (ℤ → Rest) → ℕ → Rest
negated more zero text = None
negated more (suc n) text = more (negsuc n) text

-- a signed number
unfoldable pub code_in : (ℤ → Rest) → Rest
code_in more text = either (behind (codes "-") text) (number_in 10 (negated more))
    (number_in 10 (λ n. more (pos n)) text)

-- a core: by its MPIDR in hexadecimal, or else by its number
unfoldable pub core_in : (Named → Rest) → Rest
core_in more text = either (behind (codes "0x") text) (number_in 16 (λ word. more (Mpidr word)))
    (number_in 10 (λ number. more (Number number)) text)

-- so many bytes, by two digits for each: those at the end that have none are 0
abbrev pub bytes_in : ℕ → List ℕ → Option (List ℕ)
bytes_in zero [] = Some []
bytes_in zero (code ∷ codes) = None
bytes_in (suc n) [] = option_map (λ bytes. 0 ∷ bytes) (bytes_in n [])
bytes_in (suc n) (code ∷ []) = None
bytes_in (suc n) (high ∷ low ∷ codes) =
    option_map (λ bytes. (digit_value high * 16 + digit_value low) ∷ bytes) (bytes_in n codes)

-- the frame that these bytes are
abbrev pub framed : Option (List ℕ) → (List ℕ → Rest) → Rest
framed None more text = None
framed (Some bytes) more text = more bytes text

-- one byte or more stand there
abbrev pub framed_by : List ℕ → (List ℕ → Rest) → Rest
framed_by [] more text = None
framed_by (code ∷ codes) more text = framed (bytes_in FRAME_BYTES (code ∷ codes)) more text

-- a frame
unfoldable pub frame_in : (List ℕ → Rest) → Rest
frame_in more text = framed_by (digits_in 16 text) more (behind_digits 16 text)

-- Answers --------------------------------------------------------------------------------------

-- one of these words
abbrev pub one_of : List ℕ → Rest → Rest → Rest
one_of word more other text = either (behind word text) more (other text)

-- what a core does next
abbrev pub next_in : (Next → Rest) → Rest
next_in more =
    one_of (codes "return ") (code_in (λ code. more (nexts.Return code)))
    (one_of (codes "stop") (more nexts.Stop)
    (one_of (codes "enter ") (register_in (λ address. after (codes " ")
    (register_in (λ context. more (nexts.Enter address context)))))
    (one_of (codes "resume") (more nexts.Resume)
    (after (codes "refused ") (number_in 10 (λ number. more (nexts.Refused number)))))))

-- the message behind it, where one is sent
abbrev pub message_in : (Option (List ℕ) → Rest) → Rest
message_in more =
    one_of (codes " ") (frame_in (λ frame. more (Some frame))) (more None)

-- the answer to a call or an entry
abbrev pub outcome_in : (Outcome → Rest) → Rest
outcome_in more = next_in (λ next. message_in (λ message.
    more (record { next = next; message = message })))

-- the answer to a poll
abbrev pub polled_in : (Polled → Rest) → Rest
polled_in more =
    one_of (codes "return ") (code_in (λ code. more (polls.Code code)))
    (after (codes "refused ") (number_in 10 (λ number. more (polls.Refused number))))

-- what became of an acknowledgement
abbrev pub taken_in : (Taken → Rest) → Rest
taken_in more =
    one_of (codes "used") (more takes.Used)
    (one_of (codes "old") (more takes.Old)
    (after (codes "refused ") (number_in 10 (λ number. more (takes.Refused number)))))

-- what the power controller did: an acknowledgement, where it is none of these words
abbrev pub reply_in : (Reply → Rest) → Rest
reply_in more =
    one_of (codes "started ") (number_in 10 (λ number. more (replies.Started number)))
    (one_of (codes "ignored") (more replies.Ignored)
    (one_of (codes "refused ") (number_in 10 (λ number. more (replies.Refused number)))
    (frame_in (λ frame. more (replies.Acknowledged frame)))))

-- Lines ----------------------------------------------------------------------------------------

-- nothing stands behind it
abbrev pub whole : Event → Rest
whole event [] = Some event
whole event (code ∷ text) = None

-- a line ends with its line feed
abbrev pub ended : Event → Rest
ended event = after (10 ∷ []) (whole event)

-- a register behind a space
abbrev pub one_register : (ℕ → Rest) → Rest
one_register more = after (codes " ") (register_in more)

-- a number behind a space
abbrev pub one_number : (ℕ → Rest) → Rest
one_number more = after (codes " ") (number_in 10 more)

-- the first three registers of a call
abbrev pub registers_in : (ℕ → ℕ → ℕ → Rest) → Rest
registers_in more = one_register (λ x0. one_register (λ x1. one_register (λ x2. more x0 x1 x2)))

-- a call
abbrev pub call_in : Rest
call_in = core_in (λ core. registers_in (λ x0 x1 x2. one_register (λ x3.
    after (codes " -> ") (outcome_in (λ outcome.
    ended (Call core (record { x0 = x0; x1 = x1; x2 = x2; x3 = x3 }) outcome))))))

-- a poll
abbrev pub poll_in : Rest
poll_in = core_in (λ core. registers_in (λ x0 x1 x2.
    after (codes " -> ") (polled_in (λ polled. ended (Poll core x0 x1 x2 polled)))))

-- an entry
abbrev pub enter_in : Rest
enter_in = core_in (λ core. one_number (λ life. one_number (λ number. one_number (λ cause.
    after (codes " -> ") (outcome_in (λ outcome.
    ended (Enter core (record { life = life; number = number; cause = cause }) outcome)))))))

-- a core that goes back to its caller
abbrev pub leaves_in : Rest
leaves_in = core_in (λ core. one_register (λ x0. ended (Leaves core x0)))

-- where a core begins
abbrev pub begins_in : Rest
begins_in = core_in (λ core. registers_in (λ address x0 spsr. one_register (λ sctlr.
    ended (Begins core (record { address = address; x0 = x0; spsr = spsr; sctlr = sctlr })))))

-- an acknowledgement that the firmware got
abbrev pub take_in : Rest
take_in = frame_in (λ frame. after (codes " -> ") (taken_in (λ taken. ended (Take frame taken))))

-- a core in its stop
abbrev pub stands_in : Rest
stands_in = core_in (λ core. one_number (λ number. ended (Stands core number)))

-- a message that the power controller got
abbrev pub deliver_in : Rest
deliver_in =
    frame_in (λ frame. after (codes " -> ") (reply_in (λ reply. ended (Deliver frame reply))))

-- a wake-up
abbrev pub wake_in : Rest
wake_in = core_in (λ core. one_number (λ number.
    after (codes " -> ") (reply_in (λ reply. ended (Wake core number reply)))))

-- a reset of a core
abbrev pub reset_in : Rest
reset_in = core_in (λ core. after (codes " -> ") (reply_in (λ reply. ended (Reset core reply))))

-- the event of a line, by its first word
abbrev pub read : Rest
read = one_of (codes "call ") call_in (one_of (codes "poll ") poll_in
    (one_of (codes "enter ") enter_in (one_of (codes "leaves ") leaves_in
    (one_of (codes "begins ") begins_in (one_of (codes "take ") take_in
    (one_of (codes "stands ") stands_in (one_of (codes "deliver ") deliver_in
    (one_of (codes "wake ") wake_in (after (codes "reset ") reset_in)))))))))

-- What is written --------------------------------------------------------------------------------

-- the line of an event
abbrev pub line : Event → List ℕ
line (Call core regs outcome) = line_of (call_text core regs outcome)
line (Poll core x0 x1 x2 polled) =
    line_of (poll_text core (record { x0 = x0; x1 = x1; x2 = x2; x3 = 0 }) polled)
line (Enter core started outcome) = line_of (enter_text core started outcome)
line (Leaves core x0) = line_of (leaves_text core x0)
line (Begins core begun) = line_of (begins_text core begun)
line (Take frame taken) = line_of (take_text frame taken)
line (Stands core number) = line_of (stands_text core number)
line (Deliver frame reply) = line_of (deliver_text frame reply)
line (Wake core number reply) = line_of (wake_text core number reply)
line (Reset core reply) = line_of (reset_text core reply)

-- a number of 64 bits
abbrev pub IsWord : ℕ → Type 0
IsWord n = n < 2 ^ 64

-- of 32 bits
abbrev pub IsNumber : ℕ → Type 0
IsNumber n = n < 2 ^ 32

-- and of 32 bits with a sign
abbrev pub IsCode : ℤ → Type 0
IsCode (pos n) = n < 2 ^ 31
IsCode (negsuc n) = n < 2 ^ 31

-- the bytes of a frame, whatever they are
abbrev pub IsFrame : List ℕ → Type 0
IsFrame frame = (length frame ≡ FRAME_BYTES) × AllByRecursion (λ byte. byte < 256) frame

-- a core
abbrev pub IsNamed : Named → Type 0
IsNamed (Mpidr word) = IsWord word
IsNamed (Number number) = IsWord number

-- the registers of a call
abbrev pub AreRegs : Regs → Type 0
AreRegs regs = IsWord regs.x0 × IsWord regs.x1 × IsWord regs.x2 × IsWord regs.x3

-- a start
abbrev pub IsStarted : Started → Type 0
IsStarted started = IsNumber started.life × IsNumber started.number × IsNumber started.cause

-- where a core begins
abbrev pub IsBegun : Begun → Type 0
IsBegun begun =
    IsWord begun.address × IsWord begun.x0 × IsWord begun.spsr × IsWord begun.sctlr

-- what a core does next
abbrev pub IsNext : Next → Type 0
IsNext (nexts.Return code) = IsCode code
IsNext nexts.Stop = ⊤
IsNext (nexts.Enter address context) = IsWord address × IsWord context
IsNext nexts.Resume = ⊤
IsNext (nexts.Refused number) = IsNumber number

-- the message that is sent
abbrev pub IsSent : Option (List ℕ) → Type 0
IsSent None = ⊤
IsSent (Some frame) = IsFrame frame

-- the answer to a call or an entry
abbrev pub IsOutcome : Outcome → Type 0
IsOutcome outcome = IsNext outcome.next × IsSent outcome.message

-- the answer to a poll
abbrev pub IsPolled : Polled → Type 0
IsPolled (polls.Code code) = IsCode code
IsPolled (polls.Refused number) = IsNumber number

-- what became of an acknowledgement
abbrev pub IsTaken : Taken → Type 0
IsTaken takes.Used = ⊤
IsTaken takes.Old = ⊤
IsTaken (takes.Refused number) = IsNumber number

-- what the power controller did
abbrev pub IsReply : Reply → Type 0
IsReply (replies.Acknowledged frame) = IsFrame frame
IsReply (replies.Started number) = IsNumber number
IsReply replies.Ignored = ⊤
IsReply (replies.Refused number) = IsNumber number

-- what the calls are given
abbrev pub IsEvent : Event → Type 0
IsEvent (Call core regs outcome) = IsNamed core × AreRegs regs × IsOutcome outcome
IsEvent (Poll core x0 x1 x2 polled) =
    IsNamed core × IsWord x0 × IsWord x1 × IsWord x2 × IsPolled polled
IsEvent (Enter core started outcome) = IsNamed core × IsStarted started × IsOutcome outcome
IsEvent (Leaves core x0) = IsNamed core × IsWord x0
IsEvent (Begins core begun) = IsNamed core × IsBegun begun
IsEvent (Take frame taken) = IsFrame frame × IsTaken taken
IsEvent (Stands core number) = IsNamed core × IsNumber number
IsEvent (Deliver frame reply) = IsFrame frame × IsReply reply
IsEvent (Wake core number reply) = IsNamed core × IsNumber number × IsReply reply
IsEvent (Reset core reply) = IsNamed core × IsReply reply
