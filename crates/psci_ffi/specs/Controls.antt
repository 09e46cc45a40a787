-- What C is told of what the power controller's side of a port orders, what comes to it, and what
-- is left of it.
use Rattle.std.specs.Prelude.{if◌then◌else◌, ◌+◌, ◌<◌, ◌∷◌, ◌≡◌, Bool, IsSomeAnd, List, None}
use Rattle.std.specs.Prelude.{Option, Result, Some, [], false, nat_lt, replicate, slice_get}
use Rattle.std.specs.Prelude.{slice_set, true, ℕ}
use Rattle.psci_board.specs.Board.{BoardValue, cores, path}
use Rattle.psci_board.specs.declared.draft.Core.{Core}
use Rattle.psci_board.specs.declared.draft.Node.{Node}
use Rattle.psci_ctl_spec.specs.Replies.{last_start}
use Rattle.psci_ctl_spec.specs.Values.{Values}
use Rattle.psci_control.specs.declared.door.DoorOrder.{DoorOrder}
use Rattle.psci_control.specs.declared.door.DoorOrder.TheVariants.{Open, Write}
use Rattle.psci_control.specs.declared.order.Ending.{Ending}
use Rattle.psci_control.specs.declared.order.Ending.TheVariants as endings
use Rattle.psci_control.specs.declared.order.Order.{Order}
use Rattle.psci_control.specs.declared.order.Order.TheVariants.{Acknowledge, End, Raise, Switch}
use Rattle.psci_board.specs.declared.fault.BoardFault.{BoardFault}
use Rattle.psci_ctl_spec.specs.declared.call.CtlCall.{CtlCall}
use Rattle.psci_ctl_spec.specs.declared.call.CtlCall.TheVariants.{Deliver, Reset, Wake}
use Rattle.psci_fw_spec.specs.declared.fault.FwFault.TheVariants.{NoCore}
use Rattle.psci_link.specs.declared.parts.FrameFault.{FrameFault}
use Rattle.psci_link.specs.declared.encoding.Frame.TheVariants.{Ack, Message}
use Rattle.psci_link.specs.Frame.{first_fault}
use Rattle.psci_messages.specs.Message.{AckValue, MessageValue}
use Rattle.psci_control.specs.ControlSide.{ControlValue, IsAsked, board_of, door_due, gate_in}
use Rattle.psci_control.specs.ControlSide.{heard, holding, ordered, orders_in, served, telling}
use Rattle.psci_control.specs.ControlSide.{values_of, waits_in, with_gate}
use Rattle.psci_control.specs.SideOf.{IsNew}
use Rattle.psci_ffi.specs.Shown.{OpensAs, no_frame}
use Rattle.psci_ffi.specs.declared.control_calls.ControlOrders.{ControlOrders}
use Rattle.psci_ffi.specs.declared.controller_calls.DomainDepth.{DomainDepth}
use Rattle.psci_ffi.specs.declared.port_core.PortDoor.{PortDoor}
use Rattle.psci_ffi.specs.Controllers.{IsReadOn, ack_frame, no_domain, no_start, not_a_message}
use Rattle.psci_ffi.specs.Controllers.{start_shown}
use Rattle.psci_ffi.specs.Codes.{frame_code, no_firmware, refusal}
use Rattle.psci_ffi.specs.Slots.{KeptControl}

-- Orders ---------------------------------------------------------------------------------------

-- this number, and nothing to be done
abbrev pub none_ordered : ℕ → ControlOrders
none_ordered what = record {
  what = what;
  many = 0;
  domains = replicate 4 no_domain;
  start = no_start;
  ack = no_frame;
  ends = 0;
}

-- what came waits, or nothing waited
abbrev pub waiting : ControlOrders
waiting = none_ordered 1

-- the place of a node, 0 where there is none
abbrev pub place_in : Option Node → ℕ
place_in None = 0
place_in (Some n) = n.place

-- the domain of this level on the path of a core, with its depth
abbrev pub domain_at : BoardValue → Core → ℕ → ℕ → DomainDepth
domain_at b core level depth = record {
  level = level;
  index = place_in (slice_get (path b core.number) level);
  depth = depth;
}

-- one more domain is switched: there is room for those of a path, of which there are four at most
abbrev pub with_domain : DomainDepth → ControlOrders → ControlOrders
with_domain d o =
    if nat_lt o.many 4
    then record o { many = o.many + 1; domains = slice_set o.domains o.many d }
    else o

-- how a life ends, as a number
abbrev pub end_number : Ending → ℕ
end_number endings.Off = 1
end_number endings.Restart = 2

-- one more order, by the values once all is carried out: a core is raised for its last start; none
-- is about a core that the board does not have
abbrev pub with_order : BoardValue → Values → Order → ControlOrders → ControlOrders
with_order b v (Switch core level depth) o =
    if nat_lt core.number (cores b) then with_domain (domain_at b core level depth) o else o
with_order b v (Raise core) o =
    if nat_lt core.number (cores b)
    then record o { start = start_shown core.number (last_start v core.number) }
    else o
with_order b v (Acknowledge ack) o = record o { ack = ack_frame ack }
with_order b v (End ending) o = record o { ends = end_number ending }

-- all of them, one after the other
unfoldable pub with_orders : BoardValue → Values → List Order → ControlOrders → ControlOrders
with_orders b v [] o = o
with_orders b v (order ∷ orders) o = with_orders b v orders (with_order b v order o)

-- what C is told of these
abbrev pub orders_shown : BoardValue → Values → List Order → ControlOrders
orders_shown b v orders = with_orders b v orders (none_ordered 0)

-- the same where something is ordered: else it waits
abbrev pub due_orders : BoardValue → Values → Option (List Order) → ControlOrders
due_orders b v None = waiting
due_orders b v (Some orders) = orders_shown b v orders

-- Doors ----------------------------------------------------------------------------------------

-- what is due at a door, as a number
abbrev pub due_number : Option DoorOrder → ℕ
due_number None = 0
due_number (Some (Write start)) = 1
due_number (Some (Open number)) = 2

-- what is to stand there
abbrev pub due_shown : Core → Option DoorOrder → PortDoor
due_shown core None = record { start = no_start; opened = 0 }
due_shown core (Some (Write start)) =
    record { start = start_shown core.number (Some start); opened = 0 }
due_shown core (Some (Open number)) = record { start = no_start; opened = number }

-- Calls ----------------------------------------------------------------------------------------

-- refused by this number, and nothing changes
abbrev pub IsRefused : ControlValue → ℕ → ControlOrders → ControlValue → Type 0
IsRefused s number orders left = (orders ≡ none_ordered number) × (left ≡ s)

-- it waits, and nothing changes
abbrev pub IsWaiting : ControlValue → ControlOrders → ControlValue → Type 0
IsWaiting s orders left = (orders ≡ waiting) × (left ≡ s)

-- the power controller was asked this, and what its side orders is told
pub record IsDone (s : ControlValue) (call : CtlCall) (told : ControlOrders)
    (left : ControlValue) : Type 0 where
  pub orders : told ≡ orders_shown (board_of s) (values_of left) (orders_in s call)
  pub asked : IsAsked call s left

-- a message came, by whether it waits until its core stands
abbrev pub IsGivenIf : Bool → ControlValue → MessageValue → ControlOrders → ControlValue → Type 0
IsGivenIf true s m orders left = (orders ≡ waiting)
    × (left ≡ with_gate s m.core.number (holding m (gate_in s.gates m.core.number)))
IsGivenIf false s m orders left = IsDone s (Deliver m) orders left

-- what has waited for a core, by whether it still has to
abbrev pub IsServedIf : Bool → ControlValue → ℕ → MessageValue → ControlOrders → ControlValue
    → Type 0
IsServedIf true s c m orders left = IsWaiting s orders left
IsServedIf false s c m orders left =
    IsDone (with_gate s c (served (gate_in s.gates c))) (Deliver m) orders left

-- the same of a core for which nothing may wait
abbrev pub IsServedBy : Option MessageValue → ControlValue → ℕ → ControlOrders → ControlValue
    → Type 0
IsServedBy None s c orders left = IsWaiting s orders left
IsServedBy (Some m) s c orders left = IsServedIf (waits_in s (Deliver m)) s c m orders left

-- of this core
abbrev pub IsServed : ControlValue → Core → ControlOrders → ControlValue → Type 0
IsServed s core orders left =
    IsServedBy (gate_in s.gates core.number).waiting s core.number orders left

-- a call, by whether it waits
abbrev pub IsDoneUnless : Bool → ControlValue → CtlCall → ControlOrders → ControlValue → Type 0
IsDoneUnless true s call orders left = IsWaiting s orders left
IsDoneUnless false s call orders left = IsDone s call orders left

-- a core has a wake-up
abbrev pub IsWoken : ControlValue → Core → ControlOrders → ControlValue → Type 0
IsWoken s core orders left =
    let call = Wake core (heard s core.number) in
    IsDoneUnless (waits_in s call) s call orders left

-- a core is reset by itself
abbrev pub IsReset : ControlValue → Core → ControlOrders → ControlValue → Type 0
IsReset s core orders left = IsDone s (Reset core) orders left

-- Frames ---------------------------------------------------------------------------------------

-- bytes with this first fault
abbrev pub IsFaultyBy : Option FrameFault → ControlValue → ControlOrders → ControlValue → Type 0
IsFaultyBy None s orders left = Unit {0}
IsFaultyBy (Some fault) s orders left = IsRefused s (frame_code fault) orders left

-- bytes that are no frame of the board
abbrev pub IsFaulty : ControlValue → List ℕ → ControlOrders → ControlValue → Type 0
IsFaulty s bytes orders left = IsFaultyBy (first_fault (board_of s) bytes) s orders left

-- bytes that are the frame of an acknowledgement
abbrev pub IsMisplaced : AckValue → ControlValue → List ℕ → ControlOrders → ControlValue → Type 0
IsMisplaced a s bytes orders left =
    IsReadOn (board_of s) bytes (Ack a) → IsRefused s not_a_message orders left

-- bytes that are the frame of a message
abbrev pub IsDelivered : MessageValue → ControlValue → List ℕ → ControlOrders → ControlValue
    → Type 0
IsDelivered m s bytes orders left =
    IsReadOn (board_of s) bytes (Message m) → IsGivenIf (waits_in s (Deliver m)) s m orders left

-- what becomes of bytes
pub record IsGiven (s : ControlValue) (bytes : List ℕ) (told : ControlOrders)
    (left : ControlValue) : Type 0 where
  pub fault : IsFaulty s bytes told left
  pub ack : (a : AckValue) → IsMisplaced a s bytes told left
  pub message : (m : MessageValue) → IsDelivered m s bytes told left

-- Places ---------------------------------------------------------------------------------------

-- an empty place refuses, and stays empty
abbrev pub IsEmpty : ControlOrders → KeptControl → Type 0
IsEmpty orders left = (orders ≡ none_ordered no_firmware) × (left ≡ None)

-- what becomes of bytes that are given to a place
abbrev pub IsGivenTo : KeptControl → List ℕ → ControlOrders → KeptControl → Type 0
IsGivenTo None bytes orders left = IsEmpty orders left
IsGivenTo (Some s) bytes orders left = IsSomeAnd left (IsGiven s bytes orders)

-- what a call does to a side
abbrev pub Does : Type 1
Does = ControlValue → Core → ControlOrders → ControlValue → Type 0

-- what it comes to, by whether the board has the core
abbrev pub IsMadeIf : Bool → Does → ControlValue → ℕ → ControlOrders → KeptControl → Type 0
IsMadeIf true does s core orders left = IsSomeAnd left (does s (record { number = core }) orders)
IsMadeIf false does s core orders left =
    (orders ≡ none_ordered (refusal NoCore)) × (left ≡ Some s)

-- the same of a place
abbrev pub IsMade : Does → KeptControl → ℕ → ControlOrders → KeptControl → Type 0
IsMade does None core orders left = IsEmpty orders left
IsMade does (Some s) core orders left =
    IsMadeIf (nat_lt core (cores (board_of s))) does s core orders left

-- Words and doors ------------------------------------------------------------------------------

-- what is said of a core of a place by a call that has a number of its own
abbrev pub said_in : (ControlValue → ℕ → ℕ) → KeptControl → ℕ → ℕ
said_in said None core = no_firmware
said_in said (Some s) core =
    if nat_lt core (cores (board_of s)) then said s core else refusal NoCore

-- what is left then
abbrev pub left_in : (ControlValue → ℕ → ControlValue) → KeptControl → ℕ → KeptControl
left_in left None core = None
left_in left (Some s) core =
    if nat_lt core (cores (board_of s)) then Some (left s core) else Some s

-- a core says its word
abbrev pub told : ℕ → ControlValue → ℕ → ControlValue
told word s core = with_gate s core (telling word (gate_in s.gates core))

-- the step of a core's door that is due
abbrev pub due_in : ControlValue → ℕ → Option DoorOrder
due_in s core = door_due (values_of s) core (gate_in s.gates core)

-- and was ordered
abbrev pub stepped : ControlValue → ℕ → ControlValue
stepped s core = with_gate s core (ordered (due_in s core) (gate_in s.gates core))

-- what is written of it: nothing where the call is refused
abbrev pub door_told : KeptControl → ℕ → PortDoor → PortDoor
door_told None core old = old
door_told (Some s) core old =
    if nat_lt core (cores (board_of s))
    then due_shown (record { number = core }) (due_in s core) else old

-- no core
abbrev pub nobody : ℕ
nobody = 65535

-- a core that does not stand is rung, if there is one
pub record IsRung (s : ControlValue) (core : ℕ) : Type 0 where
  pub some : (core ≡ nobody → ⊥) → (core < cores (board_of s))
      × (heard s core ≡ (values_of s).starts core → ⊥)
  pub none : core ≡ nobody → (c : ℕ) → c < cores (board_of s)
      → heard s c ≡ (values_of s).starts c

-- the same of a place
abbrev pub IsRungIn : KeptControl → ℕ → Type 0
IsRungIn None core = core ≡ nobody
IsRungIn (Some s) core = IsRung s core

-- Opening --------------------------------------------------------------------------------------

-- what an opening leaves in a place: the new side of a port of this board
abbrev pub Opens : Result Unit BoardFault → Result BoardValue BoardFault → KeptControl
    → KeptControl → Type 0
Opens end said old left = OpensAs (λ b. IsSomeAnd left (IsNew b)) (left ≡ old) end said
