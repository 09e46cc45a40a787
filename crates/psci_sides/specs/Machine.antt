-- A machine with both sides of a port, and what steps leave of it.
use Rattle.std.specs.Prelude.{◌++◌, ◌==◌, ◌∷◌, ◌≡◌, [], Bool, false, if◌then◌else◌, List, None}
use Rattle.std.specs.Prelude.{Option, slice_get, Some, ℕ}
use Rattle.psci_abi.specs.Calls.{request_of}
use Rattle.psci_board.specs.Board.{BoardValue, is_on_path}
use Rattle.psci_messages.specs.Message.{AckValue, MessageValue}
use Rattle.psci_ctl_spec.specs.Replies.{with_path_on}
use Rattle.psci_ctl_spec.specs.Values.{first_depth}
use Rattle.psci_fw.specs.Reactions.{FirmwareValue}
use Rattle.psci_fw_spec.specs.declared.call.FwCall.{FwCall}
use Rattle.psci_fw_spec.specs.declared.call.FwCall.TheVariants as calls
use Rattle.psci_fw_spec.specs.declared.reply.FwReply.{FwReply}
use Rattle.psci_fw_spec.specs.Effects.{listed}
use Rattle.psci_control.specs.declared.door.DoorOrder.{DoorOrder}
use Rattle.psci_control.specs.declared.door.DoorOrder.TheVariants.{Write, Open}
use Rattle.psci_control.specs.declared.order.Ending.{Ending}
use Rattle.psci_control.specs.declared.order.Ending.TheVariants as endings
use Rattle.psci_control.specs.declared.order.Order.{Order}
use Rattle.psci_control.specs.declared.order.Order.TheVariants.{Switch, Raise, Acknowledge, End}
use Rattle.psci_control.specs.ControlSide.{ControlValue, values_of}
use Rattle.psci_control.specs.Powered.{switched}
use Rattle.psci_enter.specs.declared.order.Orders.{Orders}
use Rattle.psci_enter.specs.declared.post.Door.{Door}
use Rattle.psci_enter.specs.declared.side.FirmwareSide.{FirmwareSide}
use Rattle.psci_enter.specs.Orders.{called, entered, is_suspending, on}
use Rattle.psci_enter.specs.declared.order.Next.TheVariants as nexts
use Rattle.psci_enter.specs.Side.{fresh, replied, reply_in}
use Rattle.psci_port.specs.Port.{first_cut}

-- What stands around one core.
pub record Station : Type 0 where
  -- its door
  pub door : Door
  -- the start in whose stop it said that it stands
  pub word : ℕ
  -- it is held in reset
  pub held : Bool
  -- the call for which it was lent the firmware
  pub lent : Option FwCall

-- A machine: the firmware, each core's monitor, the power controller, and what stands between them.
pub record Machine : Type 0 where
  pub firmware : FirmwareValue
  pub side : ℕ → FirmwareSide
  pub control : ControlValue
  pub station : ℕ → Station
  -- who has the lock
  pub lock : Option ℕ
  -- messages and acknowledgements that are under way
  pub mail : List MessageValue
  pub acks : List AckValue
  -- how deep each domain was ordered to be
  pub depth : ℕ → ℕ → ℕ
  -- the domain of this level and place has no power
  pub cut : ℕ → ℕ → Bool

-- the monitor of the core of this number
abbrev pub side_of : Machine → ℕ → FirmwareSide
side_of m c = record (m.side c) { core = record { number = c } }

-- an item is somewhere in a list
abbrev pub IsIn : {A : Type 0} → List A → A → Type 0
IsIn items x = (i : ℕ) × (slice_get items i ≡ Some x)

-- how often the power controller started a core in this life
abbrev pub starts_in : Machine → ℕ → ℕ
starts_in m c = (values_of m.control).starts c

-- it said that it stands in its last start
abbrev pub has_stood : Machine → ℕ → Bool
has_stood m c = (m.station c).word == starts_in m c

-- As all begins ----------------------------------------------------------------------------------

-- a door that is closed
abbrev pub closed_door : Door
closed_door = record { opened = 0; start = None }

-- nothing stands around a core
abbrev pub empty : Station
empty = record { door = closed_door; word = 0; held = false; lent = None }

-- the monitor of a core in a new life
abbrev pub new_side : ℕ → FirmwareSide
new_side c = fresh (record { number = c })

-- the path of the boot core has power
abbrev pub cold : BoardValue → FirmwareValue → ControlValue → Machine
cold b f s = record {
  firmware = f;
  side = new_side;
  control = s;
  station = λ c. empty;
  lock = None;
  mail = [];
  acks = [];
  depth = first_depth b;
  cut = first_cut b;
}

-- One core ---------------------------------------------------------------------------------------

-- one core's monitor, and what stands around it, are these
abbrev pub with_core : Machine → ℕ → FirmwareSide → Station → Machine
with_core m c s x = record m {
  side = λ k. if k == c then s else m.side k;
  station = λ k. if k == c then x else m.station k;
}

-- it is lent the firmware for a call
abbrev pub lent_to : Machine → ℕ → FwCall → Machine
lent_to m c call = with_core m c (m.side c) (record (m.station c) { lent = Some call })

-- the orders of a reply to a core that was started so
abbrev pub orders_by : FirmwareSide → FwCall → FwReply → Orders
orders_by s (calls.Smc regs) reply = called s.cause regs reply
orders_by s (calls.Enter start) reply = entered s.cause reply
orders_by s (calls.Take ack) reply = on nexts.Resume

-- what the reply leaves of the core's monitor
abbrev pub side_by : FirmwareSide → FwCall → FwReply → FirmwareSide
side_by s (calls.Smc regs) reply = replied (is_suspending (request_of regs)) reply s
side_by s (calls.Enter start) reply = replied false reply s
side_by s (calls.Take ack) reply = s

-- its call ends, and leaves this firmware; what it sends is in the mailbox
abbrev pub answered : Machine → ℕ → FirmwareValue → FwCall → FwReply → Machine
answered m c g call reply =
    record (with_core m c (side_by (side_of m c) call reply)
    (record (m.station c) { lent = None })) {
      firmware = g;
      mail = listed (orders_by (side_of m c) call reply).send ++ m.mail;
    }

-- the call for which it was lent the firmware, if it was
abbrev pub returned : Machine → ℕ → FirmwareValue → Option FwCall → Machine
returned m c g None = m
returned m c g (Some call) = answered m c g call (reply_in m.firmware c call)

-- Orders are carried out -------------------------------------------------------------------------

-- a life has ended so, and this firmware was made anew
abbrev pub ended : BoardValue → FirmwareValue → Ending → Machine → Machine
ended b f endings.Off m = record m {
  firmware = f;
  side = new_side;
  station = λ c. empty;
  lock = None;
}
ended b f endings.Restart m = record m {
  firmware = f;
  side = new_side;
  station = λ c. empty;
  lock = None;
  depth = first_depth b;
  cut = first_cut b;
}

-- the path of a core has its power
abbrev pub raised : BoardValue → ℕ → Machine → Machine
raised b c m = record m {
  depth = with_path_on b c m.depth;
  cut = λ level place. if is_on_path b c level place then false else m.cut level place;
}

-- the board's hooks carry these orders out in turn
unfoldable pub carried : BoardValue → FirmwareValue → List Order → Machine → Machine
carried b f [] m = m
carried b f (Switch core level deep ∷ orders) m =
    carried b f orders (record m { depth = switched b core.number level deep m.depth })
carried b f (Raise core ∷ orders) m = carried b f orders (raised b core.number m)
carried b f (Acknowledge ack ∷ orders) m =
    carried b f orders (record m { acks = ack ∷ m.acks })
carried b f (End ending ∷ orders) m = carried b f orders (ended b f ending m)

-- the power controller's side is this now, and its orders were carried out
abbrev pub commanded : BoardValue → FirmwareValue → List Order → ControlValue → Machine → Machine
commanded b f orders t m = record (carried b f orders m) { control = t }

-- what was ordered at a door is done
abbrev pub door_by : Option DoorOrder → Station → Station
door_by None x = x
door_by (Some (Write start)) x =
    record x { door = record { opened = x.door.opened; start = Some start } }
door_by (Some (Open number)) x =
    record x { door = record { opened = number; start = x.door.start }; held = false }
