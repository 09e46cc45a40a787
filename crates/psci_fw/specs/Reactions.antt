-- What comes of a call while its message stays in its slot.
use Rattle.std.specs.Prelude.{◌<◌, ◌==◌, ◌≡◌, ◌≤◌, Err, false, if◌then◌else◌, List, None, Ok}
use Rattle.std.specs.Prelude.{Option, option_map, Result, Some, ℕ}
use Rattle.psci_abi.specs.declared.request.Request.{Request}
use Rattle.psci_board.specs.Board.{BoardValue, cores, IsBoard}
use Rattle.psci_board.specs.declared.draft.Node.{Node}
use Rattle.psci_state.specs.PowerState.{IsAsk}
use Rattle.psci_messages.specs.Message.{MessageValue}
use Rattle.psci_messages.specs.Slots.{Slot, slot_of}
use Rattle.psci_messages.specs.Slots.Slot.{OfCore, OfSystem}
use Rattle.psci_messages.specs.declared.kind.Kind.{Kind}
use Rattle.psci_messages.specs.declared.kind.Kind.TheVariants.{Down, Off, Reset, Start}
use Rattle.psci_messages.specs.declared.part.Part.{Part}
use Rattle.psci_fw_spec.specs.PowerCalls.{node_status, suspend_parts}
use Rattle.psci_fw_spec.specs.Effects.{change, function_effect}
use Rattle.psci_fw_spec.specs.Answer.{function_outcome}
use Rattle.psci_fw_spec.specs.Changes.{Rest, start_of_life, with_claims, with_rest}
use Rattle.psci_fw_spec.specs.Invariant.{AreValues}
use Rattle.psci_fw_spec.specs.NodeHwState.{node_hw}
use Rattle.psci_fw_spec.specs.Phases.{Running}
use Rattle.psci_fw_spec.specs.Values.{Values}
use Rattle.psci_fw_spec.specs.declared.fault.FwFault.{FwFault}
use Rattle.psci_fw_spec.specs.declared.hw.Hw.{Hw}
use Rattle.psci_fw_spec.specs.declared.opening.Opening.{Opening}
use Rattle.psci_fw_spec.specs.declared.outcome.Outcome.{Outcome}
use Rattle.psci_fw_spec.specs.declared.reply.FwReply.{FwReply}
use Rattle.psci_fw_spec.specs.declared.reply.FwReply.TheVariants.{Fault, Out}
use Rattle.psci_fw_spec.specs.declared.status.Status.{Status}
use Rattle.psci_fw_state.specs.Claims.{MayClaim}
use Rattle.psci_fw_state.specs.Seen.{message_shown, StateValue, values_in}
use Rattle.psci_fw.specs.declared.reaction.Reaction.{Reaction}

-- How a running core is answered ------------------------------------------------------------------

-- a core calls: it is running, in a state such as a firmware keeps
pub record IsCaller (s : StateValue) (core : ℕ) : Type 0 where
  pub board : IsBoard s.board
  pub values : AreValues s.board (values_in s)
  pub inside : core < cores s.board
  pub running : (values_in s).phase core ≡ Running

-- a core may call a function: it is running, in a life that is not halting
pub record MayCall (s : StateValue) (c : ℕ) : Type 0 where
  pub board : IsBoard s.board
  pub values : AreValues s.board (values_in s)
  pub inside : c < cores s.board
  pub running : (values_in s).phase c ≡ Running
  pub awake : (values_in s).halting ≡ false

-- a function was answered as the definitions say, and left what they say
pub record FunctionAnswered (b : BoardValue) (v : Values) (c : ℕ) (r : Request) (o : Outcome)
    (w : Values)
    : Type 0 where
  pub answer : o ≡ function_outcome b v c r
  pub after : w ≡ change b (function_effect b c r o.act o.message) v

-- Messages for the whole system -------------------------------------------------------------------

-- a message of this kind is for the whole system
abbrev pub IsOfSystem : Kind → Type 0
IsOfSystem Down = ⊥
IsOfSystem Start = ⊥
IsOfSystem Off = Unit {0}
IsOfSystem Reset = Unit {0}

-- Reactions ---------------------------------------------------------------------------------------

-- the number of a slot: that of its core, or for the system the number of cores
abbrev pub number_of : BoardValue → Slot → ℕ
number_of b (OfCore c) = c
number_of b OfSystem = cores b

-- the number of the slot of a message
abbrev pub slot_number : BoardValue → MessageValue → ℕ
slot_number b m = number_of b (slot_of m.kind m.core)

-- what is sent: what stands in this slot
abbrev pub sent_from : BoardValue → Values → Option ℕ → Option MessageValue
sent_from b v None = None
sent_from b v (Some number) = message_shown b v number

-- what was answered, with the message that stands in the slot afterwards
abbrev pub outcome_in : BoardValue → Values → Reaction → Outcome
outcome_in b v r = record { act = r.act; message = sent_from b v r.slot }

-- the same as a reply
abbrev pub reply_in : BoardValue → Values → Result Reaction FwFault → FwReply
reply_in b v (Ok reaction) = Out (outcome_in b v reaction)
reply_in b v (Err fault) = Fault fault

-- a slot is named exactly where it has what is sent, and it is the slot of that message
abbrev pub IsInItsSlot : BoardValue → Values → Reaction → Type 0
IsInItsSlot b v r = r.slot ≡ option_map (slot_number b) (sent_from b v r.slot)

-- a reaction came of a call that left this state: its message stands in its slot, and the board is
-- the one that it was
pub record IsReaction (old new : StateValue) (r : Reaction) : Type 0 where
  pub slot : IsInItsSlot new.board (values_in new) r
  pub board : new.board ≡ old.board

-- What the firmware is seen as: the board, and the values that it keeps ---------------------------

-- A firmware, as contracts see it: its state, which has its board.
abbrev pub FirmwareValue : Type 0
FirmwareValue = StateValue

-- the values in a firmware
abbrev pub seen : FirmwareValue → Values
seen f = values_in f

-- Before any core has entered all is as at the start of a life.
pub record IsFresh (b : BoardValue) (v : Values) : Type 0 where
  pub same : v.life ≡ 0 → v ≡ start_of_life b 0

-- What holds of every firmware: it has a board, its values are such as it keeps on this board,
-- before any core has entered they are those of the start of a life, and the life is none beyond
-- the board's last one.
pub record IsFirmware (f : FirmwareValue) : Type 0 where
  pub board : IsBoard f.board
  pub values : AreValues f.board (seen f)
  pub fresh : IsFresh f.board (seen f)
  pub lives : (seen f).life ≤ f.board.lives

-- the life, None before any core has entered
abbrev pub life_shown : ℕ → Option ℕ
life_shown life = if life == 0 then None else Some life

-- the status of a node, None before any core has entered
abbrev pub status_shown : FirmwareValue → Node → Option Status
status_shown f n =
    if (seen f).life == 0 then None else Some (node_status f.board (seen f).status n)

-- the hardware state of a node, None before any core has entered
abbrev pub hw_shown : FirmwareValue → Node → Option Hw
hw_shown f n = if (seen f).life == 0 then None else Some (node_hw (seen f) n)

-- Whether a core may be suspended, and what it leaves ---------------------------------------------

-- a core may be suspended with this ask: if it gets parts, they may be granted once it rests
pub record MaySuspend (b : BoardValue) (v : Values) (c : ℕ) (ask : List ℕ) (opening : Opening)
    : Type 0 where
  pub shape : IsAsk ask
  pub may : (parts : List Part) → suspend_parts b v c ask ≡ Ok parts
      → MayClaim b c parts v.granted

-- what is left by a core that was suspended so, or refused
abbrev pub left_by_suspend : BoardValue → Values → ℕ → Rest → Option MessageValue → Values
left_by_suspend b v c rest None = v
left_by_suspend b v c rest (Some m) = with_claims b m (with_rest c rest v)

-- a core that sent a Down rests with its claim, and one that was refused changed nothing
abbrev pub Suspends : BoardValue → Values → ℕ → Rest → Outcome → Values → Type 0
Suspends b v c rest o w = w ≡ left_by_suspend b v c rest o.message
