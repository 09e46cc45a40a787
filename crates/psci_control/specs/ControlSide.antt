-- The power controller's side of a port: what it keeps, and what each call leaves of that.
use Rattle.std.specs.Prelude.{◌==◌, ◌≡◌, Bool, if◌then◌else◌, length, List, None, Option}
use Rattle.std.specs.Prelude.{option_map, replicate, slice_index_or, slice_set, Some, ℕ}
use Rattle.psci_ctl.specs.Seen.{ControllerValue, seen}
use Rattle.psci_board.specs.Board.{BoardValue, cores}
use Rattle.psci_messages.specs.Message.{MessageValue}
use Rattle.psci_ctl_spec.specs.declared.call.CtlCall.{CtlCall}
use Rattle.psci_ctl_spec.specs.Replies.{change, Effect, effect_of, last_start, reply}
use Rattle.psci_ctl_spec.specs.declared.reply.CtlReply.{CtlReply}
use Rattle.psci_ctl_spec.specs.History.{IsOfBoard}
use Rattle.psci_port.specs.Resting.{is_shown}
use Rattle.psci_ctl_spec.specs.Values.{Values}
use Rattle.psci_control.specs.declared.door.DoorOrder.{DoorOrder}
use Rattle.psci_control.specs.declared.door.DoorOrder.TheVariants.{Write, Open}
use Rattle.psci_control.specs.declared.gate.Gate.{Gate}
use Rattle.psci_control.specs.declared.order.Ending.{Ending}
use Rattle.psci_control.specs.declared.order.Order.{Order}
use Rattle.psci_control.specs.Orders.{ending_of, orders_of}
use Rattle.psci_port.specs.Waiting.{waits}

-- the power controller's side, as contracts see it
pub record ControlValue : Type 0 where
  pub controller : ControllerValue
  -- of each core, in the order of their numbers
  pub gates : List Gate

-- nothing was written down of a core
abbrev pub closed : Gate
closed = record { written = None; opened = 0; word = 0; waiting = None }

-- what is kept of the core of this number
abbrev pub gate_in : List Gate → ℕ → Gate
gate_in gates c = slice_index_or gates c closed

-- the board
abbrev pub board_of : ControlValue → BoardValue
board_of s = s.controller.board

-- the power controller's values
abbrev pub values_of : ControlValue → Values
values_of s = seen s.controller

-- the word that was heard of a core
abbrev pub heard : ControlValue → ℕ → ℕ
heard s c = (gate_in s.gates c).word

-- a message that waits is of this board, and of this core
pub record IsWaiting (b : BoardValue) (c : ℕ) (m : MessageValue) : Type 0 where
  pub board : IsOfBoard b m
  pub core : m.core.number ≡ c

-- what holds of every such side
pub record IsControlSide (s : ControlValue) : Type 0 where
  pub gates : length s.gates ≡ cores (board_of s)
  pub waiting : (c : ℕ) (m : MessageValue) → (gate_in s.gates c).waiting ≡ Some m
      → IsWaiting (board_of s) c m

-- What is left ------------------------------------------------------------------------------------

-- this is kept of one core
abbrev pub with_gate : ControlValue → ℕ → Gate → ControlValue
with_gate s c g = record s { gates = slice_set s.gates c g }

-- a message waits for its core, in place of one that waited before
abbrev pub holding : MessageValue → Gate → Gate
holding m g = record g { waiting = Some m }

-- none does
abbrev pub served : Gate → Gate
served g = record g { waiting = None }

-- its core says that it stands in this start
abbrev pub telling : ℕ → Gate → Gate
telling word g = record g { word = word }

-- the step of its door that is due: its last start is written, and then the door is opened for it
abbrev pub door_due : Values → ℕ → Gate → Option DoorOrder
door_due v c g =
    if g.opened == v.starts c then None else
    (if is_shown g.written (last_start v c) then Some (Open (v.starts c))
    else option_map (λ s. Write s) (last_start v c))

-- and was ordered
abbrev pub ordered : Option DoorOrder → Gate → Gate
ordered None g = g
ordered (Some (Write start)) g = record g { written = Some start }
ordered (Some (Open number)) g = record g { opened = number }

-- once a life ends nothing is written down
abbrev pub gates_after : Option Ending → List Gate → List Gate
gates_after None gates = gates
gates_after (Some e) gates = replicate (length gates) closed

-- What is asked --------------------------------------------------------------------------------

-- what the power controller answers to this
abbrev pub reply_in : ControlValue → CtlCall → CtlReply
reply_in s call = reply (board_of s) (values_of s) call

-- what that comes down to
abbrev pub effect_in : ControlValue → CtlCall → Effect
effect_in s call = effect_of (board_of s) call (reply_in s call)

-- whether it waits
abbrev pub waits_in : ControlValue → CtlCall → Bool
waits_in s call = waits (board_of s) (values_of s) (heard s) call

-- what is ordered
abbrev pub orders_in : ControlValue → CtlCall → List Order
orders_in s call = orders_of (effect_in s call) (reply_in s call)

-- The power controller was asked this.
pub record IsAsked (call : CtlCall) (old new : ControlValue) : Type 0 where
  pub board : board_of new ≡ board_of old
  pub values : values_of new ≡ change (board_of old) (effect_in old call) (values_of old)
  pub gates : new.gates ≡ gates_after (ending_of (effect_in old call)) old.gates
