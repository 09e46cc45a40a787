-- A machine seen as a port: which acts a step is, and what the two say of each other.
use Rattle.std.specs.Prelude.{◌++◌, ◌<◌, ◌∷◌, ◌≡◌, ◌⊎◌, [], Bool, false, List, None, Option}
use Rattle.std.specs.Prelude.{Some, true, ℕ}
use Rattle.psci_board.specs.Board.{BoardValue, cores}
use Rattle.psci_messages.specs.Message.{AckValue, MessageValue}
use Rattle.psci_fw_spec.specs.declared.call.FwCall.{FwCall}
use Rattle.psci_fw_spec.specs.declared.call.FwCall.TheVariants as calls
use Rattle.psci_world_spec.specs.declared.event.Event.{Event}
use Rattle.psci_world_spec.specs.declared.event.Event.TheVariants.{Call, Enter}
use Rattle.psci_world_spec.specs.declared.said.Record.{Record}
use Rattle.psci_world_spec.specs.declared.said.Said.{Said}
use Rattle.psci_world_spec.specs.Legal.{acks, indexed, sent}
use Rattle.psci_control.specs.declared.door.DoorOrder.{DoorOrder}
use Rattle.psci_control.specs.declared.door.DoorOrder.TheVariants.{Write, Open}
use Rattle.psci_control.specs.ControlSide.{IsControlSide, gate_in, waits_in}
use Rattle.psci_control.specs.SideOf as control
use Rattle.psci_control.specs.declared.gate.Gate.{Gate}
use Rattle.psci_enter.specs.SideOf.{Fits, IsFirmwareOf}
use Rattle.psci_enter.specs.declared.side.FirmwareSide.{FirmwareSide}
use Rattle.psci_enter.specs.declared.order.Look.{Look}
use Rattle.psci_enter.specs.declared.order.Look.TheVariants as look
use Rattle.psci_enter.specs.declared.post.Post.{Post}
use Rattle.psci_enter.specs.declared.post.Post.TheVariants.{Entering}
use Rattle.psci_port.specs.Port.{Act, Arms, Calls, Cuts, Delivers, Enters, Finishes, Locks}
use Rattle.psci_port.specs.Port.{Opens, Port, Reboots, Resets, Restarts, Rises, Rouses, Row}
use Rattle.psci_port.specs.Port.{Sleeps, Stands, Takes, TakesUp, Turns, Unlocks, Wakes, Writes}
use Rattle.psci_sides.specs.Machine.{IsIn, Machine, Station, has_stood}
use Rattle.psci_sides.specs.Steps.{ArmCore, BeginCall, BeginEntry, Carry, CutPower, DeliverKept}
use Rattle.psci_sides.specs.Steps.{DeliverMail, due_at, EndCall, found_in, GiveLock, Hear, KeepBack}
use Rattle.psci_sides.specs.Steps.{LookAtDoor, machine, RebootAll, ResetCore, RestartAll, RiseCore}
use Rattle.psci_sides.specs.Steps.{RouseCore, SendAgain, ServeDoor, SleepCore, Stand, Step, TakeAck}
use Rattle.psci_sides.specs.Steps.{TakeLock, TurnCore, wake_of, WakeUp}

-- Which acts a step is ---------------------------------------------------------------------------

-- a look that takes a start up is an act, and no other is
abbrev pub look_acts : ℕ → Look → List Act
look_acts c look.Enter = TakesUp c ∷ []
look_acts c (look.Tell word) = []
look_acts c look.Rest = []

-- what is done at a door
abbrev pub door_acts : ℕ → Option DoorOrder → List Act
door_acts c None = []
door_acts c (Some (Write start)) = Writes c ∷ []
door_acts c (Some (Open number)) = Opens c ∷ []

-- a core that stands comes to its WFI, and one that was started meanwhile to its door
abbrev pub sleep_act : Bool → ℕ → Act
sleep_act true c = Sleeps c
sleep_act false c = Turns c

-- its own wake-up is an act, unless that waits
abbrev pub rise_acts : Bool → ℕ → List Act
rise_acts true c = []
rise_acts false c = Rises c ∷ []

-- A step is these acts, the newest first. The port numbers messages and acknowledgements, and says
-- what a call is going to answer.
abbrev pub Shows : Machine → Step → List Act → Type 0
Shows m (TakeLock c) acts = acts ≡ Locks c ∷ []
Shows m (GiveLock c) acts = acts ≡ Unlocks c ∷ []
Shows m (BeginCall c regs) acts = (said : Said) × (acts ≡ Calls c regs said ∷ [])
Shows m (BeginEntry c start) acts = (said : Said) × (acts ≡ Enters c said ∷ [])
Shows m (EndCall c g) acts = acts ≡ Finishes c ∷ []
-- a firmware that was made anew takes none
Shows m (TakeAck c ack g) acts =
    (acts ≡ []) ⊎ ((k : ℕ) × ((said : Said) × (acts ≡ Finishes c ∷ Takes c k said ∷ [])))
Shows m (SendAgain c number) acts = acts ≡ []
Shows m (LookAtDoor c pending) acts = acts ≡ look_acts c (found_in m c pending)
Shows m (Stand c) acts = acts ≡ Stands c ∷ []
Shows m (Hear c) acts = acts ≡ []
Shows m (DeliverMail x t f) acts = (k : ℕ) × (acts ≡ Delivers k x ∷ [])
Shows m (KeepBack x) acts = acts ≡ []
Shows m (DeliverKept c x t f) acts = (k : ℕ) × (acts ≡ Delivers k x ∷ [])
Shows m (WakeUp c t) acts = acts ≡ Wakes c ∷ []
Shows m (ServeDoor c) acts = acts ≡ door_acts c (due_at m c)
Shows m (ResetCore c t) acts = acts ≡ Resets c ∷ []
Shows m (CutPower level place) acts = acts ≡ Cuts level place ∷ []
Shows m (Carry mail made) acts = acts ≡ []
Shows m (RestartAll f s) acts = acts ≡ Restarts ∷ []
Shows m (RebootAll f t) acts = acts ≡ Reboots ∷ []
Shows m (ArmCore c) acts = acts ≡ Arms c ∷ []
Shows m (SleepCore c) acts = acts ≡ sleep_act (has_stood m c) c ∷ []
Shows m (RouseCore c) acts = acts ≡ Rouses c ∷ []
Shows m (RiseCore c t) acts = acts ≡ rise_acts (waits_in m.control (wake_of m c)) c
Shows m (TurnCore c) acts = acts ≡ Turns c ∷ []

-- A run is these acts: those of its steps in turn.
abbrev pub AreShown : BoardValue → Machine → List Step → List Act → Type 0
AreShown b m [] acts = acts ≡ []
AreShown b m (x ∷ steps) acts = (new : List Act) × ((old : List Act)
    × ((acts ≡ new ++ old) × (Shows (machine b m steps) x new × AreShown b m steps old)))

-- What a machine and a port say of each other ----------------------------------------------------

-- the event of a call that a core began, whose monitor is at this post
abbrev pub IsEventOf : ℕ → Post → FwCall → Event → Type 0
IsEventOf c post (calls.Smc regs) event = event ≡ Call c regs
IsEventOf c post (calls.Enter start) event = (event ≡ Enter c) × (post ≡ Entering start)
IsEventOf c post (calls.Take ack) event = ⊥

-- a core is lent the firmware exactly where it has begun this call
abbrev pub IsLent : ℕ → Post → Option FwCall → Option Record → Type 0
IsLent c post None begun = begun ≡ None
IsLent c post (Some call) begun =
    (r : Record) × ((begun ≡ Some r) × IsEventOf c post call r.event)

-- One core's monitor knows which start the core used and where it is; and what stands around it
-- stands there in the port.
pub record IsCoreOf (c : ℕ) (s : FirmwareSide) (x : Station) (r : Row) : Type 0 where
  pub used : s.used ≡ r.used
  pub post : Fits s.post r.stage
  pub opened : x.door.opened ≡ r.opened
  pub start : x.door.start ≡ r.door
  pub word : x.word ≡ r.stopped
  pub held : x.held ≡ r.held
  pub lent : IsLent c s.post x.lent r.begun

-- this message was sent in the port
abbrev pub WasSent : List Record → MessageValue → Type 0
WasSent past x = (k : ℕ) × (indexed (sent past) k ≡ Some x)

-- this acknowledgement was made
abbrev pub WasMade : List Record → AckValue → Type 0
WasMade past a = (k : ℕ) × (indexed (acks past) k ≡ Some a)

-- The mailbox invents nothing, nor does what the power controller keeps back.
pub record IsMailOf (mail : List MessageValue) (gates : List Gate) (made : List AckValue)
    (past : List Record) : Type 0 where
  pub messages : (x : MessageValue) → IsIn mail x → WasSent past x
  pub kept : (c : ℕ) (x : MessageValue) → (gate_in gates c).waiting ≡ Some x → WasSent past x
  pub acks : (a : AckValue) → IsIn made a → WasMade past a

-- Each domain was ordered to be as deep as the power controller counts, and has power or not.
pub record IsPowerOf (ordered counted : ℕ → ℕ → ℕ) (off gone : ℕ → ℕ → Bool) : Type 0 where
  pub depth : (level place : ℕ) → ordered level place ≡ counted level place
  pub cut : (level place : ℕ) → off level place ≡ gone level place

-- The two sides of the machine describe this port, and so does what stands between them.
pub record IsMachineOf (b : BoardValue) (m : Machine) (p : Port) : Type 0 where
  pub each : (c : ℕ) → c < cores b → IsCoreOf c (m.side c) (m.station c) (p.row c)
  pub firmware : IsFirmwareOf b m.firmware p
  pub control : control.IsSideOf b m.control p
  pub gates : IsControlSide m.control
  pub lock : m.lock ≡ p.lock
  pub mail : IsMailOf m.mail m.control.gates m.acks p.past
  pub power : IsPowerOf m.depth p.values.depth m.cut p.cut
