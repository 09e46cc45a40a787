-- What C is told, what a call leaves in a place, and what C reads of a stop.
use Rattle.std.specs.Prelude.{◌&&◌, ◌==◌, ◌||◌, ◌∷◌, ◌≡◌, Bool, Err, IsOk, IsSomeAnd, List, None}
use Rattle.std.specs.Prelude.{Ok, Option, Result, Some, [], false, map, option_map, pos, replicate}
use Rattle.std.specs.Prelude.{slice_get, true, ℕ, ℤ}
use Rattle.psci_abi.specs.declared.registers.Regs.{Regs}
use Rattle.psci_board.specs.Board.{BoardValue, cores}
use Rattle.psci_board.specs.declared.fault.BoardFault.{BoardFault}
use Rattle.psci_board.specs.declared.fault.BoardFault.TheVariants.{Memory}
use Rattle.psci_fw.specs.Reactions.{seen}
use Rattle.psci_fw_spec.specs.declared.call.FwCall.{FwCall}
use Rattle.psci_fw_spec.specs.declared.call.FwCall.TheVariants as calls
use Rattle.psci_fw_spec.specs.declared.outcome.Act.{Act}
use Rattle.psci_fw_spec.specs.declared.outcome.Act.TheVariants.{Enter, Resume, Return, Stop}
use Rattle.psci_fw_spec.specs.declared.reply.FwReply.{FwReply}
use Rattle.psci_fw_spec.specs.declared.reply.FwReply.TheVariants.{Fault, Out, Taken}
use Rattle.psci_fw_spec.specs.declared.status.Status.TheVariants.{Off}
use Rattle.psci_fw_spec.specs.Answer.{answer}
use Rattle.psci_fw_spec.specs.Changes.{start_of_life}
use Rattle.psci_link.specs.declared.encoding.Frame.TheVariants.{Message}
use Rattle.psci_link.specs.Frame.{frame_bytes}
use Rattle.psci_messages.specs.Message.{MessageValue}
use Rattle.psci_platform.specs.declared.asked.Asked.{Asked}
use Rattle.psci_platform.specs.declared.asked.Asked.TheVariants.{Nothing, Reset, States}
use Rattle.psci_platform.specs.Platforms.{PlatformValue}
use Rattle.psci_status.specs.Lists.{IsNext, PolledView}
use Rattle.psci_abi.specs.Calls.{low_half}
use Rattle.psci_fw_state.specs.Seen.{message_shown}
use Rattle.psci_messages.specs.declared.kind.Kind.{Kind}
use Rattle.psci_messages.specs.declared.kind.Kind.TheVariants as kinds
use Rattle.psci_messages.specs.declared.part.Part.{Part}
use Rattle.psci_ffi.specs.declared.answer.Answer.{Answer}
use Rattle.psci_ffi.specs.declared.answer.SomeFrame.{SomeFrame}
use Rattle.psci_ffi.specs.declared.answer.GivenAsked.{GivenAsked}
use Rattle.psci_ffi.specs.declared.naming.Naming.{Naming}
use Rattle.psci_ffi.specs.Codes.{cause_said, no_cause, no_firmware, refusal}
use Rattle.psci_ffi.specs.Namings.{PlaceValue, asked_in, board_of, machine_of, regs_in}
use Rattle.psci_ffi.specs.Slots.{Kept}
use Rattle.psci_ffi.specs.declared.calls.Stopping.{Stopping}

-- Answers --------------------------------------------------------------------------------------

-- no frame: zeros
abbrev pub no_frame : SomeFrame
no_frame = record { some = false; bytes = replicate 53 0 }

-- the frame of a message, if there is one
abbrev pub frame_shown : Option MessageValue → SomeFrame
frame_shown None = no_frame
frame_shown (Some m) = record { some = true; bytes = frame_bytes (Message m) }

-- no state and no reset
abbrev pub nothing_asked : GivenAsked
nothing_asked = record { what = 0; states = 0 ∷ 0 ∷ 0 ∷ 0 ∷ []; reset = 0 }

-- what is asked, as C sees it
abbrev pub asked_shown : Asked → GivenAsked
asked_shown Nothing = nothing_asked
asked_shown (States states) = record { what = 1; states = states; reset = 0 }
asked_shown (Reset reset) = record { what = 2; states = 0 ∷ 0 ∷ 0 ∷ 0 ∷ []; reset = reset }

-- an answer beside which this is asked
abbrev pub with_asked : GivenAsked → Answer → Answer
with_asked asked answer = record answer { asked = asked }

-- an answer of these numbers, beside which nothing is asked
abbrev pub numbers : ℕ → ℤ → ℕ → ℕ → SomeFrame → Answer
numbers what code address context frame = record {
  what = what;
  code = code;
  address = address;
  context = context;
  message = frame;
  asked = nothing_asked;
}

-- an answer without numbers
abbrev pub plain : ℕ → SomeFrame → Answer
plain what frame = numbers what (pos 0) 0 0 frame

-- a refusal
abbrev pub refused : ℕ → Answer
refused what = plain what no_frame

-- what the core does next, and what is sent
abbrev pub act_shown : Act → SomeFrame → Answer
act_shown (Return code) frame = numbers 0 code.0 0 0 frame
act_shown Stop frame = plain 1 frame
act_shown (Enter address context) frame = numbers 2 (pos 0) address context frame
act_shown Resume frame = plain 3 frame

-- a reply to a call or an entry, as C sees it
abbrev pub shown : FwReply → Answer
shown (Out outcome) = act_shown outcome.act (frame_shown outcome.message)
shown (Taken taken) = refused no_firmware
shown (Fault fault) = refused (refusal fault)

-- Calls ----------------------------------------------------------------------------------------

-- the call of a core that enters, where there is such a cause
abbrev pub start_called : ℕ → ℕ → ℕ → Option FwCall
start_called life number cause =
    option_map (λ c. calls.Enter (record { life = life; number = number; cause = c }))
    (cause_said cause)

-- the registers that C gives one by one
abbrev pub regs_given : ℕ → ℕ → ℕ → ℕ → Regs
regs_given x0 x1 x2 x3 = record { x0 = x0; x1 = x1; x2 = x2; x3 = x3 }

-- the call of the firmware in a place for registers in its words, in the mode that it is in
abbrev pub called_in : Kept → Regs → FwCall
called_in None regs = calls.Smc regs
called_in (Some f) regs = calls.Smc (regs_in f.machine (seen f.polled.firmware).mode regs)

-- what such a call asks beside: nothing where there is no firmware
abbrev pub told_in : Kept → Regs → GivenAsked
told_in None regs = nothing_asked
told_in (Some f) regs = asked_shown (asked_in f.machine (seen f.polled.firmware).mode regs)

-- what a core is answered that makes this call: there may be no such call, and no firmware
abbrev pub answered : Kept → ℕ → Option FwCall → Answer
answered k c None = refused no_cause
answered None c (Some call) = refused no_firmware
answered (Some f) c (Some call) =
    shown (answer f.polled.firmware.board (seen f.polled.firmware) c call)

-- the firmware after a call, with the machine that it was opened with
pub record IsNextIn (f : PlaceValue) (c : ℕ) (call : FwCall) (f' : PlaceValue) : Type 0 where
  pub next : IsNext f.polled c call f'.polled
  pub machine : f'.machine ≡ f.machine

-- what a call leaves in a place
abbrev pub IsAfter : Kept → ℕ → Option FwCall → Kept → Type 0
IsAfter k c None left = left ≡ k
IsAfter None c (Some call) left = left ≡ None
IsAfter (Some f) c (Some call) left = IsSomeAnd left (IsNextIn f c call)

-- a call with this reply leaves all as it was, if it is refused
abbrev pub IsSameIf : FwReply → Kept → Kept → Type 0
IsSameIf (Out outcome) k left = Unit {0}
IsSameIf (Taken taken) k left = Unit {0}
IsSameIf (Fault fault) k left = left ≡ k

-- a refused call leaves all as it was
abbrev pub IsSameRefused : Kept → ℕ → Option FwCall → Kept → Type 0
IsSameRefused k c None left = left ≡ k
IsSameRefused None c (Some call) left = left ≡ None
IsSameRefused (Some f) c (Some call) left =
    IsSameIf (answer f.polled.firmware.board (seen f.polled.firmware) c call) (Some f) left

-- Opening --------------------------------------------------------------------------------------

-- the firmware of this board, before any core has entered: OFF was written of each core
pub record IsNew (b : BoardValue) (f : PolledView) : Type 0 where
  pub board : f.firmware.board ≡ b
  pub values : seen f.firmware ≡ start_of_life b 0
  pub written : f.written ≡ replicate (cores b) (Off ∷ [])

-- the same in a place, with the machine whose words it has, if there is one
pub record IsNewPlace (b : BoardValue) (words : Option PlatformValue) (f : PlaceValue)
    : Type 0 where
  pub fresh : IsNew b f.polled
  pub machine : f.machine ≡ words

-- the same in these words
abbrev pub IsNewIn : Naming → PlaceValue → Type 0
IsNewIn naming = IsNewPlace (board_of naming) (machine_of naming)

-- the same in the board's own words
abbrev pub IsNewOn : BoardValue → PlaceValue → Type 0
IsNewOn b = IsNewPlace b None

-- What an opening with this end leaves in a place of any kind, by what is said of the board: what
-- is made of it, or the same as before. Memory is answered only where the board has no fault, and
-- whatever is answered, nothing changes but by an opening.
abbrev pub OpensAs : (BoardValue → Type 0) → Type 0 → Result Unit BoardFault
    → Result BoardValue BoardFault → Type 0
OpensAs Made Same (Ok done) (Ok board) = Made board
OpensAs Made Same (Ok done) (Err fault) = ⊥
OpensAs Made Same (Err Memory) said = IsOk said × Same
OpensAs Made Same (Err fault) said = (said ≡ Err fault) × Same

-- the new firmware of this board, in its own words
abbrev pub Opens : Result Unit BoardFault → Result BoardValue BoardFault → Kept → Kept → Type 0
Opens end said old left = OpensAs (λ b. IsSomeAnd left (IsNewOn b)) (left ≡ old) end said

-- Stops -------------------------------------------------------------------------------------------

-- the depth that a part asks, 0 where there is none
abbrev pub depth_of : Option Part → ℕ
depth_of None = 0
depth_of (Some p) = p.depth

-- the depths that the parts of a message ask: they count up from level 0
abbrev pub depths_of : List Part → List ℕ
depths_of ps = map (λ level. depth_of (slice_get ps level)) (0 ∷ 1 ∷ 2 ∷ 3 ∷ [])

-- whether a message takes domains down
abbrev pub is_down : Kind → Bool
is_down kinds.Down = true
is_down kinds.Start = false
is_down kinds.Off = false
is_down kinds.Reset = false

-- whether a call with this x0 suspends its caller, so that a wake-up may end its stop: CPU_SUSPEND
-- or SYSTEM_SUSPEND, by either convention
abbrev pub is_suspend : ℕ → Bool
is_suspend x0 =
    low_half x0 == 0x84000001 || low_half x0 == 0xC4000001
    || low_half x0 == 0x8400000E || low_half x0 == 0xC400000E

-- nothing goes down, and no wake-up ends it
abbrev pub no_stop : Stopping
no_stop = record { depths = replicate 4 0; wakes = false }

-- the stop by which this message was sent, if one was, after a call with this x0
abbrev pub stop_sent : Option MessageValue → ℕ → Stopping
stop_sent None x0 = no_stop
stop_sent (Some m) x0 = record {
  depths = depths_of m.parts;
  wakes = is_down m.kind && is_suspend x0;
}

-- the stop that a core was answered last
abbrev pub stop_read : Kept → ℕ → ℕ → Stopping
stop_read None core x0 = no_stop
stop_read (Some f) core x0 =
    stop_sent (message_shown f.polled.firmware.board (seen f.polled.firmware) core) x0
