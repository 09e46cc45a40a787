-- Which steps serve what is outstanding, beside those that a machine takes by itself, and where
-- that ends.
use Rattle.std.specs.Prelude.{◌&&◌, ◌++◌, ◌+◌, ◌<◌, ◌∷◌, ◌≡◌, ◌⊎◌, [], Bool, false}
use Rattle.std.specs.Prelude.{if◌then◌else◌, List, None, Some, true, ℕ}
use Rattle.psci_board.specs.Board.{BoardValue, cores}
use Rattle.psci_messages.specs.Message.{AckValue, MessageValue}
use Rattle.psci_messages.specs.Slots.{answers, is_done, slot_of}
use Rattle.psci_messages.specs.declared.kind.Kind.TheVariants as kinds
use Rattle.psci_ctl_spec.specs.declared.call.CtlCall.TheVariants as asked
use Rattle.psci_ctl_spec.specs.History.{IsSendable}
use Rattle.psci_fw.specs.Reactions.{seen}
use Rattle.psci_control.specs.ControlSide.{gate_in, heard, values_of}
use Rattle.psci_enter.specs.Again.{outstanding_in}
use Rattle.psci_enter.specs.declared.post.Post.TheVariants.{Running}
use Rattle.psci_port.specs.Served.{IsSpent}
use Rattle.psci_sides.specs.Kept.{Agree}
use Rattle.psci_sides.specs.Machine.{IsIn, Machine}
use Rattle.psci_sides.specs.Resting.{Goes, is_entering}
use Rattle.psci_sides.specs.Steps.{ArmedLacks, DeliverKept, DeliverMail, Hear, Holds, IsDue}
use Rattle.psci_sides.specs.Steps.{keeping, machine, SendAgain, Step, TakeAck, TakeLock}

-- What is under way ------------------------------------------------------------------------------

-- the firmware waits for the acknowledgement of this message
abbrev pub IsOut : Machine → MessageValue → Type 0
IsOut m x = (seen m.firmware).outstanding (slot_of x.kind x.core) ≡ Some x

-- a frame of it is in the mailbox, or kept back at its core's gate
abbrev pub IsUnderWay : Machine → MessageValue → Type 0
IsUnderWay m x = IsIn m.mail x
    ⊎ ((gate_in m.control.gates x.core.number).waiting ≡ Some x)

-- after this acknowledgement nothing of the message is outstanding
abbrev pub is_end_of : AckValue → MessageValue → Bool
is_end_of ack x = answers ack x && is_done ack x

-- and it is in the mailbox
abbrev pub IsEnding : Machine → MessageValue → Type 0
IsEnding m x = (ack : AckValue) × (IsIn m.acks ack × (is_end_of ack x ≡ true))

-- A frame of this message is of use: it is outstanding, its end is not under way, and a delivery
-- brings something about.
pub record IsWanted (b : BoardValue) (m : Machine) (x : MessageValue) : Type 0 where
  pub out : IsOut m x
  pub unended : IsEnding m x → ⊥
  pub brings : IsSpent b (values_of m.control) x → ⊥

-- nothing of an outstanding message is under way: it is to be sent again
pub record IsLost (m : Machine) (x : MessageValue) : Type 0 where
  pub frame : IsUnderWay m x → ⊥
  pub ack : IsEnding m x → ⊥

-- What is left to a core that comes in: the end of a message is to be taken, or the message to be
-- sent again.
abbrev pub IsLeft : BoardValue → Machine → Type 0
IsLeft b m = (x : MessageValue) × ((x.core.number < cores b) × (IsOut m x
    × (IsEnding m x ⊎ IsLost m x)))

-- Steps that serve -------------------------------------------------------------------------------

-- A step serves, whatever its method leaves: a frame of use is delivered, a word heard that was
-- not, and with the lock in hand the end of a message is taken, or the message sent again. A core
-- of the normal world comes in where something of this is left to it.
abbrev pub Serves : BoardValue → Machine → Step → Type 0
Serves b m (TakeLock c) =
    (c < cores b) × (m.lock ≡ None) × ((m.side c).post ≡ Running) × IsLeft b m
Serves b m (TakeAck c ack g) = Holds b m c × IsIn m.acks ack
    × ((x : MessageValue) × (IsOut m x × (is_end_of ack x ≡ true)))
Serves b m (SendAgain c number) = Holds b m c
    × ((x : MessageValue) × ((outstanding_in m.firmware number ≡ Some x) × IsLost m x))
Serves b m (Hear c) = (c < cores b) × (heard m.control c ≡ (m.station c).word → ⊥)
Serves b m (DeliverMail x t f) =
    IsIn m.mail x × IsSendable b x × IsDue (asked.Deliver x) m.control
    × (x.kind ≡ kinds.Start → ArmedLacks m x.core.number) × IsWanted b m x
Serves b m (DeliverKept c x t f) =
    (c < cores b) × ((gate_in m.control.gates c).waiting ≡ Some x) × IsSendable b x
    × IsDue (asked.Deliver x) (keeping m c)
    × (x.kind ≡ kinds.Start → ArmedLacks m x.core.number) × IsWanted b m x
Serves b m step = ⊥

-- each of the newest steps is the machine's own, or serves, after these
abbrev pub EachServes : BoardValue → Machine → List Step → List Step → Type 0
EachServes b m steps [] = Unit {0}
EachServes b m steps (x ∷ newest) =
    (Goes b (machine b m (newest ++ steps)) x ⊎ Serves b (machine b m (newest ++ steps)) x)
    × EachServes b m steps newest

-- How many --------------------------------------------------------------------------------------

-- a core of the normal world comes in, and none on its way into the firmware
abbrev pub comes_in : Machine → Step → ℕ
comes_in m (TakeLock c) = if is_entering (m.side c).post then 0 else 1
comes_in m step = 0

-- how often one does in the newest steps
unfoldable pub visits : BoardValue → Machine → List Step → List Step → ℕ
visits b m steps [] = 0
visits b m steps (x ∷ newest) =
    comes_in (machine b m (newest ++ steps)) x + visits b m steps newest

-- the most such steps, for each core of the board
abbrev pub most_served : ℕ
most_served = 935

-- and for each time that a core comes in
abbrev pub most_visit : ℕ
most_visit = 12

-- Where that ends --------------------------------------------------------------------------------

-- All is served: no frame that is under way is of use. Where a core is in the normal world,
-- firmware and power controller agree, unless the system is being turned off or reset. Where none
-- is, what is left waits for a core that comes in.
pub record IsServed (b : BoardValue) (m : Machine) : Type 0 where
  pub frames : (x : MessageValue) → IsUnderWay m x → IsWanted b m x → ⊥
  pub agree : (c : ℕ) → c < cores b → (m.side c).post ≡ Running
      → (seen m.firmware).halting ≡ false → Agree b m
