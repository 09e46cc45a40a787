-- What C is told of a power controller, what a call of it leaves, and what is read and saved of it.
use Rattle.std.specs.Prelude.{if◌then◌else◌, ◌==◌, ◌∷◌, ◌≡◌, Bool, IsSomeAnd, List, None, Option}
use Rattle.std.specs.Prelude.{Result, Some, [], false, length, map, nat_lt, replicate, slice_get}
use Rattle.std.specs.Prelude.{true, ℕ}
use Rattle.psci_board.specs.Board.{BoardValue, cores, domain_of, has_node}
use Rattle.psci_messages.specs.declared.part.Part.{Part}
use Rattle.psci_link.specs.declared.encoding.Frame.TheVariants.{Ack, Message}
use Rattle.psci_link.specs.Frame.{IsFrame, IsOf, first_fault, frame_bytes}
use Rattle.psci_messages.specs.Message.{AckValue, MessageValue}
use Rattle.psci_messages.specs.declared.start.Cause.{Cause}
use Rattle.psci_messages.specs.declared.start.Cause.TheVariants as causes
use Rattle.psci_messages.specs.declared.start.Start.{Start}
use Rattle.psci_ctl_spec.specs.declared.call.CtlCall.{CtlCall}
use Rattle.psci_ctl_spec.specs.declared.delivery.Delivery.TheVariants.{Applied, Ignored}
use Rattle.psci_ctl_spec.specs.declared.reply.CtlReply.{CtlReply}
use Rattle.psci_ctl_spec.specs.declared.reply.CtlReply.TheVariants.{Delivery, Kick}
use Rattle.psci_ctl_spec.specs.Replies.{Begins, Deepens, Effect, Ends, Nothing, Starts, after}
use Rattle.psci_ctl_spec.specs.Replies.{effect_of, last_start, reply}
use Rattle.psci_ctl_spec.specs.Values.{Values, start_of_life}
use Rattle.psci_board.specs.declared.fault.BoardFault.{BoardFault}
use Rattle.psci_ctl.specs.Seen.{ControllerValue, seen}
use Rattle.psci_ctl_spec.specs.declared.call.CtlCall.TheVariants.{Deliver}
use Rattle.psci_ctl_spec.specs.declared.delivery.Delivery.TheVariants as deliveries
use Rattle.psci_ctl_spec.specs.declared.kick.Kick.TheVariants as kicks
use Rattle.psci_fw_spec.specs.declared.fault.FwFault.TheVariants.{NoCore, NoLife}
use Rattle.psci_link.specs.declared.parts.FrameFault.{FrameFault}
use Rattle.psci_link.specs.declared.encoding.Frame.{Frame}
use Rattle.psci_board.specs.declared.draft.Node.{Node}
use Rattle.psci_ctl.specs.declared.fault.SavedFault.{SavedFault}
use Rattle.psci_ctl.specs.declared.fault.SavedFault.TheVariants as faults
use Rattle.psci_ctl.specs.Saved.{saved, saved_fault}
use Rattle.psci_ffi.specs.Shown.{OpensAs, no_frame}
use Rattle.psci_ffi.specs.declared.answer.SomeFrame.{SomeFrame}
use Rattle.psci_ffi.specs.declared.controller_calls.ControllerAnswer.{ControllerAnswer}
use Rattle.psci_ffi.specs.declared.controller_calls.ControllerStart.{ControllerStart}
use Rattle.psci_ffi.specs.declared.controller_calls.DomainDepth.{DomainDepth}
use Rattle.psci_ffi.specs.Codes.{frame_code, no_firmware, refusal}
use Rattle.psci_ffi.specs.Slots.{KeptController}

-- Starts ---------------------------------------------------------------------------------------

-- why a core was started, as a number: the other way round than cause_said
abbrev pub cause_number : Cause → ℕ
cause_number causes.Boot = 0
cause_number causes.On = 1
cause_number causes.Wake = 2
cause_number causes.Reset = 3

-- no start: zeros
abbrev pub no_start : ControllerStart
no_start = record { core = 0; life = 0; number = 0; cause = 0 }

-- the start that a core finds, if there is one
abbrev pub start_shown : ℕ → Option Start → ControllerStart
start_shown c None = no_start
start_shown c (Some s) =
    record { core = c; life = s.life; number = s.number; cause = cause_number s.cause }

-- Domains --------------------------------------------------------------------------------------

-- no domain: zeros
abbrev pub no_domain : DomainDepth
no_domain = record { level = 0; index = 0; depth = 0 }

-- the domain of a part on a core's path, with the depth that the part asks of it
abbrev pub domain_shown : BoardValue → ℕ → Option Part → DomainDepth
domain_shown b c None = no_domain
domain_shown b c (Some p) =
    record { level = p.level; index = (domain_of b c p.level).place; depth = p.depth }

-- those of some parts in four places, the lowest level first
abbrev pub domains_shown : BoardValue → ℕ → List Part → List DomainDepth
domains_shown b c ps = map (λ k. domain_shown b c (slice_get ps k)) (0 ∷ 1 ∷ 2 ∷ 3 ∷ [])

-- Answers --------------------------------------------------------------------------------------

-- the frame of an acknowledgement
abbrev pub ack_frame : AckValue → SomeFrame
ack_frame a = record { some = true; bytes = frame_bytes (Ack a) }

-- the acknowledgement, if a message was not ignored
abbrev pub ack_shown : CtlReply → SomeFrame
ack_shown (Delivery (Applied a)) = ack_frame a
ack_shown (Delivery Ignored) = no_frame
ack_shown (Kick k) = no_frame

-- an answer by this number alone, with the acknowledgement
abbrev pub plain : ℕ → SomeFrame → ControllerAnswer
plain what ack = record {
  what = what;
  start = no_start;
  many = 0;
  domains = replicate 4 no_domain;
  ack = ack;
}

-- a refusal
abbrev pub refused : ℕ → ControllerAnswer
refused what = plain what no_frame

-- a core was started: it finds its last start
abbrev pub started : ℕ → Values → ℕ → SomeFrame → ControllerAnswer
started what v c ack = record {
  what = what;
  start = start_shown c (last_start v c);
  many = 0;
  domains = replicate 4 no_domain;
  ack = ack;
}

-- the domains of these parts are switched
abbrev pub switched : BoardValue → ℕ → List Part → SomeFrame → ControllerAnswer
switched b c ps ack = record {
  what = 2;
  start = no_start;
  many = length ps;
  domains = domains_shown b c ps;
  ack = ack;
}

-- What is switched, by what a call comes down to and the values after it: 0 nothing, 1 a core is
-- started, 2 domains go to their depths, 3 the system goes off, 4 the next life begins and the boot
-- core is started.
abbrev pub effect_shown : BoardValue → Values → Effect → SomeFrame → ControllerAnswer
effect_shown b v Nothing ack = plain 0 ack
effect_shown b v (Starts c cause) ack = started 1 v c ack
effect_shown b v (Deepens c ps) ack = switched b c ps ack
effect_shown b v Ends ack = plain 3 ack
effect_shown b v Begins ack = started 4 v 0 ack

-- what C is told of a call that is replied to so
abbrev pub reply_shown : BoardValue → Values → CtlCall → CtlReply → ControllerAnswer
reply_shown b v call r = effect_shown b (after b call r v) (effect_of b call r) (ack_shown r)

-- what C is told of a call
abbrev pub call_shown : BoardValue → Values → CtlCall → ControllerAnswer
call_shown b v call = reply_shown b v call (reply b v call)

-- Calls ----------------------------------------------------------------------------------------

-- what is ignored leaves all as it was
abbrev pub IsSameIgnored : CtlReply → ControllerValue → ControllerValue → Type 0
IsSameIgnored (Delivery (deliveries.Applied a)) c c' = Unit {0}
IsSameIgnored (Delivery deliveries.Ignored) c c' = c' ≡ c
IsSameIgnored (Kick (kicks.Started s)) c c' = Unit {0}
IsSameIgnored (Kick kicks.Ignored) c c' = c' ≡ c

-- a call was made of a power controller
pub record IsMade (c : ControllerValue) (call : CtlCall) (told : ControllerAnswer)
    (c' : ControllerValue) : Type 0 where
  pub answer : told ≡ call_shown c.board (seen c) call
  pub values : seen c' ≡ after c.board call (reply c.board (seen c) call) (seen c)
  pub board : c'.board ≡ c.board
  pub ignored : IsSameIgnored (reply c.board (seen c) call) c c'

-- Frames ---------------------------------------------------------------------------------------

-- the bytes are an acknowledgement's, where a message's are wanted
abbrev pub not_a_message : ℕ
not_a_message = 42

-- refused by this number, and nothing changes
abbrev pub IsRefused : ControllerValue → ℕ → ControllerAnswer → ControllerValue → Type 0
IsRefused c number answer c' = (answer ≡ refused number) × (c' ≡ c)

-- bytes with this first fault
abbrev pub IsFaultyBy : Option FrameFault → ControllerValue → ControllerAnswer → ControllerValue
    → Type 0
IsFaultyBy None c answer c' = Unit {0}
IsFaultyBy (Some fault) c answer c' = IsRefused c (frame_code fault) answer c'

-- bytes that are no frame of the board
abbrev pub IsFaulty : ControllerValue → List ℕ → ControllerAnswer → ControllerValue → Type 0
IsFaulty c bytes answer c' = IsFaultyBy (first_fault c.board bytes) c answer c'

-- these bytes are this frame, of the board
abbrev pub IsReadOn : BoardValue → List ℕ → Frame → Type 0
IsReadOn b bytes frame = IsFrame frame × IsOf b frame × (frame_bytes frame ≡ bytes)

-- bytes that are the frame of an acknowledgement
abbrev pub IsMisplaced : AckValue → ControllerValue → List ℕ → ControllerAnswer → ControllerValue
    → Type 0
IsMisplaced a c bytes answer c' =
    IsReadOn c.board bytes (Ack a) → IsRefused c not_a_message answer c'

-- bytes that are the frame of a message
abbrev pub IsDelivered : MessageValue → ControllerValue → List ℕ → ControllerAnswer
    → ControllerValue → Type 0
IsDelivered m c bytes answer c' =
    IsReadOn c.board bytes (Message m) → IsMade c (Deliver m) answer c'

-- what becomes of bytes that a power controller is given
pub record IsGiven (c : ControllerValue) (bytes : List ℕ) (answer : ControllerAnswer)
    (c' : ControllerValue) : Type 0 where
  pub fault : IsFaulty c bytes answer c'
  pub ack : (a : AckValue) → IsMisplaced a c bytes answer c'
  pub message : (m : MessageValue) → IsDelivered m c bytes answer c'

-- Places ---------------------------------------------------------------------------------------

-- an empty place refuses, and stays empty
abbrev pub IsEmpty : ControllerAnswer → KeptController → Type 0
IsEmpty answer left = (answer ≡ refused no_firmware) × (left ≡ None)

-- what becomes of bytes that are given to a place
abbrev pub IsGivenTo : KeptController → List ℕ → ControllerAnswer → KeptController → Type 0
IsGivenTo None bytes answer left = IsEmpty answer left
IsGivenTo (Some c) bytes answer left = IsSomeAnd left (IsGiven c bytes answer)

-- what a wake-up or a reset of a core comes to, by whether the board has the core
abbrev pub IsKickedIf : Bool → ControllerValue → CtlCall → ControllerAnswer → KeptController
    → Type 0
IsKickedIf true c call answer left = IsSomeAnd left (IsMade c call answer)
IsKickedIf false c call answer left = (answer ≡ refused (refusal NoCore)) × (left ≡ Some c)

-- the same of a place
abbrev pub IsKicked : KeptController → ℕ → CtlCall → ControllerAnswer → KeptController → Type 0
IsKicked None core call answer left = IsEmpty answer left
IsKicked (Some c) core call answer left =
    IsKickedIf (nat_lt core (cores c.board)) c call answer left

-- Opening --------------------------------------------------------------------------------------

-- the power controller of this board, as its first life begins
pub record IsFirst (b : BoardValue) (c : ControllerValue) : Type 0 where
  pub board : c.board ≡ b
  pub values : seen c ≡ start_of_life b

-- what an opening leaves in a place: the new power controller of this board
abbrev pub Opens : Result Unit BoardFault → Result BoardValue BoardFault → KeptController
    → KeptController → Type 0
Opens end said old left = OpensAs (λ b. IsSomeAnd left (IsFirst b)) (left ≡ old) end said

-- Reading -----------------------------------------------------------------------------------------

-- a life, 0 where there is none
abbrev pub life_number : Option ℕ → ℕ
life_number None = 0
life_number (Some life) = life

-- how many times a core was started in this life: one that the board does not have never was
abbrev pub starts_of : ControllerValue → ℕ → ℕ
starts_of c core = if nat_lt core (cores c.board) then (seen c).starts core else 0

-- the last start of a core in this life, if the board has the core
abbrev pub started_of : ControllerValue → ℕ → Option Start
started_of c core = if nat_lt core (cores c.board) then last_start (seen c) core else None

-- how deep a domain is, by whether the board has it, and by the life: without one nothing is said
abbrev pub depth_said : Bool → Option ℕ → ℕ → ℕ
depth_said false life depth = refusal NoCore
depth_said true None depth = refusal NoLife
depth_said true (Some life) depth = depth

-- how deep a core's domain or a power domain is
abbrev pub depth_of : ControllerValue → Node → ℕ
depth_of c n = depth_said (has_node c.board n) (seen c).life ((seen c).depth n.level n.place)

-- Saved -------------------------------------------------------------------------------------------

-- the first fault of words
abbrev pub saved_code : SavedFault → ℕ
saved_code faults.Length = 50
saved_code faults.Format = 51
saved_code faults.Sum = 52
saved_code faults.Life = 53
saved_code faults.Starts = 54
saved_code faults.Depth = 55

-- Saving ---------------------------------------------------------------------------------------

-- what is written into words, by whether they are as many as are saved
abbrev pub SavesIf : Bool → ControllerValue → List ℕ → ℕ → List ℕ → Type 0
SavesIf true c old code new = (code ≡ 0) × (new ≡ saved c)
SavesIf false c old code new = (code ≡ saved_code faults.Length) × (new ≡ old)

-- the same of a place
abbrev pub Saves : KeptController → List ℕ → ℕ → List ℕ → Type 0
Saves None old code new = (code ≡ no_firmware) × (new ≡ old)
Saves (Some c) old code new = SavesIf (length old == length (saved c)) c old code new

-- Loading --------------------------------------------------------------------------------------

-- what loading leaves, by the first fault of the words: a power controller of the same board that
-- would be saved as these words, or the one that was there
abbrev pub LoadsBy : Option SavedFault → ControllerValue → List ℕ → ℕ → ControllerValue → Type 0
LoadsBy None c words code c' = (code ≡ 0) × (c'.board ≡ c.board) × (saved c' ≡ words)
LoadsBy (Some fault) c words code c' = (code ≡ saved_code fault) × (c' ≡ c)

-- the same of a place
abbrev pub Loads : KeptController → List ℕ → ℕ → KeptController → Type 0
Loads None words code left = (code ≡ no_firmware) × (left ≡ None)
Loads (Some c) words code left =
    IsSomeAnd left (LoadsBy (saved_fault c.board words) c words code)
