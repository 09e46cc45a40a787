-- The steps of a machine with both sides: each is a call of a side whose orders are carried out, or
-- comes from outside. What a step waits for is what the methods ask of a caller, and the hooks'.
use Rattle.std.specs.Prelude.{◌&&◌, ◌++◌, ◌<◌, ◌==◌, ◌∷◌, ◌≡◌, [], Bool, false, if◌then◌else◌}
use Rattle.std.specs.Prelude.{List, None, Option, replicate, Some, true, ℕ}
use Rattle.psci_abi.specs.declared.registers.Regs.{Regs}
use Rattle.psci_board.specs.Board.{BoardValue, cores, is_on_path, up}
use Rattle.psci_messages.specs.Message.{AckValue, MessageValue}
use Rattle.psci_messages.specs.declared.kind.Kind.TheVariants as kinds
use Rattle.psci_messages.specs.declared.start.Start.{Start}
use Rattle.psci_ctl_spec.specs.declared.call.CtlCall.{CtlCall}
use Rattle.psci_ctl_spec.specs.declared.call.CtlCall.TheVariants as asked
use Rattle.psci_ctl_spec.specs.Replies.{Begins, change}
use Rattle.psci_ctl_spec.specs.History.{IsSendable}
use Rattle.psci_fw.specs.Reactions.{FirmwareValue, seen}
use Rattle.psci_fw_spec.specs.declared.call.FwCall.{FwCall}
use Rattle.psci_fw_spec.specs.declared.call.FwCall.TheVariants as calls
use Rattle.psci_fw_spec.specs.Changes.{start_of_life}
use Rattle.psci_fw_spec.specs.Effects.{listed}
use Rattle.psci_control.specs.declared.door.DoorOrder.{DoorOrder}
use Rattle.psci_control.specs.ControlSide.{board_of, closed, ControlValue, door_due, gate_in}
use Rattle.psci_control.specs.ControlSide.{heard, holding, IsAsked, IsControlSide, ordered}
use Rattle.psci_control.specs.ControlSide.{orders_in, reply_in, served, telling, values_of}
use Rattle.psci_control.specs.ControlSide.{waits_in, with_gate}
use Rattle.psci_control.specs.SideOf.{IsNew}
use Rattle.psci_enter.specs.Again.{outstanding_in}
use Rattle.psci_enter.specs.Side.{at, found, looked, may_look}
use Rattle.psci_enter.specs.Side as firmware
use Rattle.psci_enter.specs.SideOf.{is_started}
use Rattle.psci_enter.specs.declared.order.Look.{Look}
use Rattle.psci_enter.specs.declared.order.Look.TheVariants as look
use Rattle.psci_enter.specs.declared.post.Post.{Post}
use Rattle.psci_enter.specs.declared.post.Post.TheVariants.{Armed, Entering, Leaving, Running}
use Rattle.psci_enter.specs.declared.post.Post.TheVariants.{Waiting, Woken}
use Rattle.psci_sides.specs.Machine.{cold, commanded, door_by, IsIn, lent_to, Machine, returned}
use Rattle.psci_sides.specs.Machine.{side_of, Station, with_core}

-- A step. A method's result stands in it: the firmware, or the power controller's side, that the
-- method leaves, and the firmware that is made anew if a life ends.
pub data Step : Type 0 where
  -- a core takes the lock, and gives it back
  TakeLock : (core : ℕ) → Step
  GiveLock : (core : ℕ) → Step
  -- `call` and `enter` of the core's monitor begin, with the firmware lent; and end
  BeginCall : (core : ℕ) → (regs : Regs) → Step
  BeginEntry : (core : ℕ) → (start : Start) → Step
  EndCall : (core : ℕ) → (left : FirmwareValue) → Step
  -- an acknowledgement is taken
  TakeAck : (core : ℕ) → (ack : AckValue) → (left : FirmwareValue) → Step
  -- what is outstanding is sent once more
  SendAgain : (core : ℕ) → (number : ℕ) → Step
  -- `look`, and `stands`
  LookAtDoor : (core : ℕ) → (pending : Bool) → Step
  Stand : (core : ℕ) → Step
  -- the power controller hears a core's word
  Hear : (core : ℕ) → Step
  -- `message` of a message that does not wait, and of one that does; and `waited`
  DeliverMail : (message : MessageValue) → (left : ControlValue) → (anew : FirmwareValue) → Step
  KeepBack : (message : MessageValue) → Step
  DeliverKept : (core : ℕ) → (message : MessageValue) → (left : ControlValue)
      → (anew : FirmwareValue) → Step
  -- `wake`, and `door`
  WakeUp : (core : ℕ) → (left : ControlValue) → Step
  ServeDoor : (core : ℕ) → Step
  -- a core is reset by itself, and `reset` is called
  ResetCore : (core : ℕ) → (left : ControlValue) → Step
  -- the power of a domain goes
  CutPower : (level : ℕ) → (place : ℕ) → Step
  -- frames are lost, repeated and overtaken
  Carry : (mail : List MessageValue) → (acks : List AckValue) → Step
  -- all is reset though nobody asked, and all but the power controller
  RestartAll : (anew : FirmwareValue) → (control : ControlValue) → Step
  RebootAll : (anew : FirmwareValue) → (control : ControlValue) → Step
  -- the power controller is in the monitors: `arms`, and `sleeps` as the core comes to its WFI
  ArmCore : (core : ℕ) → Step
  SleepCore : (core : ℕ) → Step
  -- an interrupt ends the core's WFI, or brings it back, and `rouses` is called
  RouseCore : (core : ℕ) → Step
  -- it tells its own wake-up by `wake` and `rises`; and `turns`
  RiseCore : (core : ℕ) → (left : ControlValue) → Step
  TurnCore : (core : ℕ) → Step

-- What a step leaves -----------------------------------------------------------------------------

-- what a core finds as it looks at its door
abbrev pub found_in : Machine → ℕ → Bool → Look
found_in m c pending = found (side_of m c) (m.station c).door pending

-- the wake-up of a core, whose word was heard
abbrev pub wake_of : Machine → ℕ → CtlCall
wake_of m c = asked.Wake (record { number = c }) (heard m.control c)

-- its reset
abbrev pub reset_of : ℕ → CtlCall
reset_of c = asked.Reset (record { number = c })

-- the order that is due at its door
abbrev pub due_at : Machine → ℕ → Option DoorOrder
due_at m c = door_due (values_of m.control) c (gate_in m.control.gates c)

-- the power controller's side keeps this of a core
abbrev pub keeping : Machine → ℕ → ControlValue
keeping m c = with_gate m.control c (served (gate_in m.control.gates c))

-- a core comes out of a reset of its own, and is held until its door is open
abbrev pub came_back : ℕ → Machine → Machine
came_back c m = with_core m c (at Waiting (side_of m c))
    (record (m.station c) { held = true; lent = None })

-- a core says that it stands in its present start
abbrev pub saying : Machine → ℕ → Station
saying m c = record (m.station c) { word = (m.side c).used }

-- a core's monitor is elsewhere
abbrev pub elsewhere : ℕ → Post → Machine → Machine
elsewhere c post m = with_core m c (at post (side_of m c)) (m.station c)

-- a core that an interrupt brings back is armed again, started or not, and its path has power
abbrev pub roused : BoardValue → ℕ → Machine → Machine
roused b c m = record (elsewhere c Armed m) {
  cut = λ level place. if is_on_path b c level place then false else m.cut level place;
}

-- A core has told its own wake-up, with the lock in hand: it was started by that, or not. That of a
-- core that others started meanwhile waits, and nothing is ordered.
abbrev pub risen : Bool → BoardValue → ℕ → ControlValue → Machine → Machine
risen true b c t m = elsewhere c (firmware.heard false) m
risen false b c t m = elsewhere c (firmware.heard (is_started (reply_in m.control (wake_of m c))))
    (commanded b m.firmware (orders_in m.control (wake_of m c)) t m)

-- what a step leaves
unfoldable pub after : BoardValue → Machine → Step → Machine
after b m (TakeLock c) = record m { lock = Some c }
after b m (GiveLock c) = record m { lock = None }
after b m (BeginCall c regs) = lent_to m c (calls.Smc regs)
after b m (BeginEntry c start) = lent_to m c (calls.Enter start)
after b m (EndCall c g) = returned m c g (m.station c).lent
after b m (TakeAck c ack g) = record m { firmware = g }
after b m (SendAgain c number) =
    record m { mail = listed (outstanding_in m.firmware number) ++ m.mail }
after b m (LookAtDoor c pending) =
    with_core m c (looked (found_in m c pending) (m.station c).door (side_of m c)) (m.station c)
after b m (Stand c) = with_core m c (at Waiting (side_of m c)) (saying m c)
after b m (Hear c) = record m {
  control = with_gate m.control c (telling (m.station c).word (gate_in m.control.gates c));
}
after b m (DeliverMail x t f) = commanded b f (orders_in m.control (asked.Deliver x)) t m
after b m (KeepBack x) = record m {
  control = with_gate m.control x.core.number
      (holding x (gate_in m.control.gates x.core.number));
}
after b m (DeliverKept c x t f) = commanded b f (orders_in m.control (asked.Deliver x)) t m
after b m (WakeUp c t) = commanded b m.firmware (orders_in m.control (wake_of m c)) t m
after b m (ServeDoor c) = record (with_core m c (m.side c) (door_by (due_at m c) (m.station c))) {
  control = with_gate m.control c (ordered (due_at m c) (gate_in m.control.gates c));
}
after b m (ResetCore c t) =
    came_back c (commanded b m.firmware (orders_in m.control (reset_of c)) t m)
after b m (CutPower level place) =
    record m { cut = λ l q. if l == level && q == place then true else m.cut l q }
after b m (Carry mail acks) = record m { mail = mail; acks = acks }
after b m (RestartAll f s) = cold b f s
after b m (RebootAll f t) = cold b f t
after b m (ArmCore c) = with_core m c (at Armed (side_of m c)) (saying m c)
after b m (SleepCore c) = elsewhere c Waiting m
after b m (RouseCore c) = roused b c m
after b m (RiseCore c t) = risen (waits_in m.control (wake_of m c)) b c t m
after b m (TurnCore c) = elsewhere c Waiting m

-- What a step waits for --------------------------------------------------------------------------

-- a core has the lock, and is inside no call
abbrev pub Holds : BoardValue → Machine → ℕ → Type 0
Holds b m c = (c < cores b) × (m.lock ≡ Some c) × ((m.station c).lent ≡ None)

-- it has not the lock
abbrev pub Lacks : Machine → ℕ → Type 0
Lacks m c = m.lock ≡ Some c → ⊥

-- it may have the lock: it took a start up, and has not come to its stop; or it is armed
abbrev pub may_hold : Post → Bool
may_hold Waiting = false
may_hold (Entering start) = true
may_hold Running = true
may_hold Leaving = true
may_hold Armed = true
may_hold Woken = true

-- an armed core is started by others, with a message or a wake-up, while it has not the lock
abbrev pub ArmedLacks : Machine → ℕ → Type 0
ArmedLacks m c = (m.side c).post ≡ Armed → Lacks m c

-- below this domain no core is armed
abbrev pub NoneArmed : BoardValue → Machine → ℕ → ℕ → Type 0
NoneArmed b m level place =
    (c : ℕ) → c < cores b → up b level c ≡ place → (m.side c).post ≡ Armed → ⊥

-- a firmware that was made anew
pub record IsMadeAnew (b : BoardValue) (f : FirmwareValue) : Type 0 where
  pub board : f.board ≡ b
  pub values : seen f ≡ start_of_life b 0

-- the power controller may be asked this: it does not wait
abbrev pub IsDue : CtlCall → ControlValue → Type 0
IsDue call s = waits_in s call ≡ false

-- and was asked
pub record Asks (call : CtlCall) (old new : ControlValue) : Type 0 where
  pub now : IsDue call old
  pub asked : IsAsked call old new
  pub side : IsControlSide new

-- who has the lock is not reset by itself, nor is a core that may be started no more
abbrev pub MayReset : BoardValue → Machine → ℕ → Type 0
MayReset b m c =
    (c < cores b) × Lacks m c × (is_started (reply_in m.control (reset_of c)) ≡ true)

-- an armed core tells its own wake-up with the lock in hand, started or not
abbrev pub MayRise : BoardValue → Machine → ℕ → Type 0
MayRise b m c = Holds b m c × ((m.side c).post ≡ Armed)

-- a power controller that was not reset goes on to its next life
pub record GoesOn (b : BoardValue) (old new : ControlValue) : Type 0 where
  pub life : ℕ
  pub lives : (values_of old).life ≡ Some life
  pub more : life < b.lives
  pub board : board_of new ≡ b
  pub values : values_of new ≡ change b Begins (values_of old)
  pub gates : new.gates ≡ replicate (cores b) closed
  pub side : IsControlSide new

-- what each step waits for
abbrev pub May : BoardValue → Machine → Step → Type 0
-- The lock has one holder, who is inside a start that it took up, or is armed. An armed core takes
-- it though others started it between the interrupt and the lock.
May b m (TakeLock c) = (c < cores b) × (m.lock ≡ None) × (may_hold (m.side c).post ≡ true)
May b m (GiveLock c) = Holds b m c
-- the firmware is asked with the lock in hand
May b m (BeginCall c regs) = Holds b m c × ((m.side c).post ≡ Running)
May b m (BeginEntry c start) = Holds b m c × ((m.side c).post ≡ Entering start)
May b m (EndCall c g) = (c < cores b) × ((call : FwCall) × (((m.station c).lent ≡ Some call)
    × firmware.IsAsked c call m.firmware g))
May b m (TakeAck c ack g) =
    Holds b m c × IsIn m.acks ack × firmware.IsAsked c (calls.Take ack) m.firmware g
May b m (SendAgain c number) = Holds b m c
-- a core that is held in reset looks at nothing; one takes a start up, and stands, without the lock
May b m (LookAtDoor c pending) =
    (c < cores b) × ((m.station c).held ≡ false) × (may_look (m.side c).post ≡ true)
    × (found_in m c pending ≡ look.Enter → Lacks m c)
May b m (Stand c) = (c < cores b) × ((m.side c).post ≡ Leaving) × Lacks m c
May b m (Hear c) = c < cores b
-- a frame that is no message of the board is dropped
May b m (DeliverMail x t f) =
    IsIn m.mail x × IsSendable b x × Asks (asked.Deliver x) m.control t
    × IsMadeAnew b f × (x.kind ≡ kinds.Start → ArmedLacks m x.core.number)
May b m (KeepBack x) = IsIn m.mail x × IsSendable b x
    × (waits_in m.control (asked.Deliver x) ≡ true)
May b m (DeliverKept c x t f) =
    (c < cores b) × ((gate_in m.control.gates c).waiting ≡ Some x) × IsSendable b x
    × Asks (asked.Deliver x) (keeping m c) t × IsMadeAnew b f
    × (x.kind ≡ kinds.Start → ArmedLacks m x.core.number)
-- a wake-up is there
May b m (WakeUp c t) = (c < cores b) × Asks (wake_of m c) m.control t × ArmedLacks m c
May b m (ServeDoor c) = (c < cores b) × ((order : DoorOrder) × (due_at m c ≡ Some order))
May b m (ResetCore c t) = MayReset b m c × Asks (reset_of c) m.control t
-- power goes only where it was ordered, and not before the WFI of each armed core below
May b m (CutPower level place) = (0 < m.depth level place) × NoneArmed b m level place
May b m (Carry mail acks) = ((x : MessageValue) → IsIn mail x → IsIn m.mail x)
    × ((a : AckValue) → IsIn acks a → IsIn m.acks a)
-- the firmware begins anew, and the mailbox is empty; the power controller begins anew, or goes on
May b m (RestartAll f s) = IsMadeAnew b f × IsNew b s × IsControlSide s
May b m (RebootAll f t) = IsMadeAnew b f × GoesOn b m.control t
-- a core on its way to its stop says that it stands, with its WFI still to come, to which it comes
-- without the lock
May b m (ArmCore c) = (c < cores b) × ((m.side c).post ≡ Leaving)
May b m (SleepCore c) = (c < cores b) × ((m.side c).post ≡ Armed) × Lacks m c
May b m (RouseCore c) = (c < cores b) × ((m.side c).post ≡ Waiting)
-- it tells its own wake-up, which is asked unless it waits, and goes to its door without the lock
May b m (RiseCore c t) =
    MayRise b m c × (IsDue (wake_of m c) m.control → Asks (wake_of m c) m.control t)
May b m (TurnCore c) = (c < cores b) × ((m.side c).post ≡ Woken) × Lacks m c

-- Runs -------------------------------------------------------------------------------------------

-- a machine as its power comes on
pub record IsCold (b : BoardValue) (f : FirmwareValue) (s : ControlValue) : Type 0 where
  pub firmware : IsMadeAnew b f
  pub control : IsNew b s
  pub side : IsControlSide s

-- the machine after these steps, the newest first
unfoldable pub machine : BoardValue → Machine → List Step → Machine
machine b m [] = m
machine b m (x ∷ steps) = after b (machine b m steps) x

-- steps each of which waited for what it has to wait for
abbrev pub IsRun : BoardValue → Machine → List Step → Type 0
IsRun b m [] = Unit {0}
IsRun b m (x ∷ steps) = May b (machine b m steps) x × IsRun b m steps
