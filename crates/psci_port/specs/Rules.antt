-- The rules of a port, and what it takes its machine to do.
use Rattle.std.specs.Prelude.{◌≡◌, ℕ, ◌<◌, true, false, ◌==◌, List, [], ◌∷◌, None, Some}
use Rattle.psci_board.specs.Board.{BoardValue, IsBoard, cores, up}
use Rattle.psci_ctl_spec.specs.psci_messages.Message.{AckValue}
use Rattle.psci_ctl_spec.specs.psci_messages.declared.kind.Kind.TheVariants as kinds
use Rattle.psci_ctl_spec.specs.psci_messages.declared.start.Start.{Start}
use Rattle.psci_ctl_spec.specs.declared.call.CtlCall.TheVariants as asked
use Rattle.psci_ctl_spec.specs.History.{IsSendable}
use Rattle.psci_ctl_spec.specs.Replies.{last_start}
use Rattle.psci_world_spec.specs.psci_fw_spec.declared.call.FwCall.TheVariants as calls
use Rattle.psci_world_spec.specs.declared.said.Record.{Record}
use Rattle.psci_world_spec.specs.Legal.{acks, asked_firmware, indexed, sent}
use Rattle.psci_port.specs.Waiting.{stands, touches, waits}
use Rattle.psci_port.specs.Stages.{Armed, Entering, is_armed, is_started, Leaving, looks}
use Rattle.psci_port.specs.Stages.{may_hold, Normal, Woken}
use Rattle.psci_port.specs.Port.{Act, Arms, Calls, Cuts, Delivers, Enters, Finishes, Locks}
use Rattle.psci_port.specs.Port.{Opens, Port, Reboots, Resets, Restarts, Rises, Rouses, Sleeps}
use Rattle.psci_port.specs.Port.{stage_at, Stands, state, Takes, TakesUp, Turns, Unlocks, Wakes}
use Rattle.psci_port.specs.Port.{words, Writes}

-- this core has the lock, and is inside no call of the firmware
abbrev pub HasLock : Port → ℕ → Type 0
HasLock p c = (p.lock ≡ Some c) × ((p.row c).begun ≡ None)

-- this core has it not
abbrev pub LacksLock : Port → ℕ → Type 0
LacksLock p c = p.lock ≡ Some c → ⊥

-- below this domain no core is armed
abbrev pub NoneArmed : BoardValue → Port → ℕ → ℕ → Type 0
NoneArmed b p level place =
    (c : ℕ) → c < cores b → up b level c ≡ place → is_armed (stage_at p c) ≡ false

-- What each act waits for.
abbrev pub May : BoardValue → Port → Act → Type 0
-- The lock has one holder, who gives it back once its call has ended. An armed core takes it though
-- it was started meanwhile, hears of no wake-up then, and gives it back.
May b p (Locks c) = (c < cores b) × (p.lock ≡ None) × (may_hold (stage_at p c) ≡ true)
May b p (Unlocks c) = HasLock p c
-- the firmware is asked with the lock in hand: by a core of the normal world, by one that took a
-- start up, with an acknowledgement by any
May b p (Calls c regs said) = (c < cores b) × HasLock p c × (stage_at p c ≡ Normal)
May b p (Enters c said) =
    (c < cores b) × HasLock p c × ((s : Start) × (stage_at p c ≡ Entering s))
May b p (Takes c k said) = HasLock p c
May b p (Finishes c) = (r : Record) × ((p.row c).begun ≡ Some r)
-- a core takes up what is open and was not used, without the lock, and nothing while it is held
May b p (TakesUp c) =
    (is_started (stage_at p c) ≡ true) × ((p.row c).held ≡ false)
    × (((p.row c).opened == (p.row c).used) ≡ false) × LacksLock p c
-- a core stands once it has given the lock back; one that has not is armed
May b p (Stands c) = (stage_at p c ≡ Leaving) × LacksLock p c
May b p (Arms c) = (stage_at p c ≡ Leaving) × ((p.row c).begun ≡ None)
May b p (Sleeps c) = (stage_at p c ≡ Armed) × LacksLock p c
-- what touches a core's present start waits until the core stands; and a core is neither started
-- nor reset by itself while it has the lock
May b p (Delivers k m) =
    IsSendable b m × (waits b p.values (words p) (asked.Deliver m) ≡ false)
    × (touches b p.values m ≡ true → m.kind ≡ kinds.Start → LacksLock p m.core.number)
May b p (Wakes c) = (c < cores b) × (stands p.values (words p) c ≡ true) × LacksLock p c
May b p (Resets c) = (c < cores b) × LacksLock p c
-- but for its own wake-up: a core in its wait comes back, hears that with the lock in hand, unless
-- it was started by others, and goes to its door once it has given the lock back
May b p (Rouses c) = (c < cores b) × (looks (stage_at p c) ≡ true)
May b p (Rises c) = (c < cores b) × (stage_at p c ≡ Armed) × HasLock p c
May b p (Turns c) = (stage_at p c ≡ Woken) × LacksLock p c
-- a start is written before its door is opened for it, and not once that is open
May b p (Writes c) = ((p.row c).opened == p.values.starts c) ≡ false
May b p (Opens c) = (p.row c).door ≡ last_start p.values c
-- power goes only where the power controller took the domain down, and not before each armed core
-- below has come to its WFI
May b p (Cuts level place) = (0 < p.values.depth level place) × NoneArmed b p level place
May b p Restarts = Unit {0}
-- in its last life the power controller does not go on
May b p Reboots = IsBoard b × ((life : ℕ) × ((p.values.life ≡ Some life) × (life < b.lives)))

-- acts each of which waited for what it has to wait for, newest first
abbrev pub IsPortRun : BoardValue → List Act → Type 0
IsPortRun b [] = Unit {0}
IsPortRun b (act ∷ acts) = May b (state b acts) act × IsPortRun b acts

-- What a call of the firmware is going to say is its answer by what it found; and the mailbox
-- invents nothing: what is delivered was sent, and what is taken was made.
abbrev pub IsTrue : BoardValue → Port → Act → Type 0
IsTrue b p (Calls c regs said) = said ≡ asked_firmware b p.past c (calls.Smc regs)
IsTrue b p (Enters c said) = (s : Start) → stage_at p c ≡ Entering s
    → said ≡ asked_firmware b p.past c (calls.Enter s)
IsTrue b p (Takes c k said) = (a : AckValue) × (indexed (acks p.past) k ≡ Some a)
    × (said ≡ asked_firmware b p.past 0 (calls.Take a))
IsTrue b p (Delivers k m) = indexed (sent p.past) k ≡ Some m
IsTrue b p act = Unit {0}

-- the same of each act of a run
abbrev pub AreTrue : BoardValue → List Act → Type 0
AreTrue b [] = Unit {0}
AreTrue b (act ∷ acts) = IsTrue b (state b acts) act × AreTrue b acts
