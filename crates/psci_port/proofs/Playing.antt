-- Worked examples are stated so: acts in turn, and which clauses fail after them. An act that
-- breaks a rule is played as any other.
use Rattle.std.specs.Prelude.{if◌then◌else◌, is_some, nat_le, nat_lt}
use Rattle.std.proofs.Common.{◌++◌}
use Rattle.psci_ctl_spec.specs.psci_messages.declared.kind.Kind.TheVariants as kinds
use Rattle.psci_ctl_spec.specs.psci_messages.declared.kind.Kind.TheVariants.{Down, Off}
use Rattle.psci_ctl_spec.specs.psci_messages.declared.start.Cause.TheVariants as causes
use Rattle.psci_world_spec.specs.Legal.{acks, sent}
use Rattle.psci_world_spec.specs.declared.said.Said.TheVariants.{Absent}
use Rattle.psci_world_spec.specs.psci_fw_spec.declared.call.FwCall.TheVariants as calls
use Rattle.psci_world_spec.proofs.Scripts.{board, computing, part, tall}
use Rattle.psci_headline.specs.Test.{at_each_core, at_each_level}
use Rattle.psci_port.specs.Port.{state, step}
use Rattle.psci_port.specs.Rebooted.{rebooted}
use Rattle.psci_port.specs.Stages.{executes}
use Rattle.psci_port.proofs.Words.{◌&&◌, ◌==◌, ◌||◌, ◌∷◌, [], AckValue, Act, arith, asked_firmware}
use Rattle.psci_port.proofs.Words.{BoardValue, Bool, Calls, cold, Delivers, Entering, Enters}
use Rattle.psci_port.proofs.Words.{Finishes, has_stopped, indexed, is_shown, IsSendable, Kind}
use Rattle.psci_port.proofs.Words.{last_start, List, Locks, may_hold, MessageValue, None, not}
use Rattle.psci_port.proofs.Words.{Opens, Option, Part, Port, Said, Some, Stage, stage_at, Stands}
use Rattle.psci_port.proofs.Words.{Start, Takes, TakesUp, true, Unlocks, up, Values, words, Writes}
use Rattle.psci_port.proofs.Words.{ℕ}

-- Acts in turn -----------------------------------------------------------------------------------

-- a message and what is said stand for those of the moment
abbrev blank_message : MessageValue
blank_message = record {
  kind = kinds.Off;
  core = record { number = 0 };
  life = 0;
  number = 0;
  parts = [];
}

abbrev pub asks : ℕ → ℕ → ℕ → ℕ → ℕ → Act
asks c x0 x1 x2 x3 = Calls c (record { x0 = x0; x1 = x1; x2 = x2; x3 = x3 }) Absent

abbrev pub enters : ℕ → Act
enters c = Enters c Absent

abbrev pub takes : ℕ → ℕ → Act
takes c k = Takes c k Absent

abbrev pub delivers : ℕ → Act
delivers k = Delivers k blank_message

abbrev of_moment : MessageValue → Option MessageValue → MessageValue
of_moment m None = m
of_moment m (Some n) = n

abbrev said_in : BoardValue → Port → ℕ → Stage → Said
said_in b p c (Entering s) = asked_firmware b p.past c (calls.Enter s)
said_in b p c y = Absent

abbrev said_to : BoardValue → Port → Option AckValue → Said
said_to b p None = Absent
said_to b p (Some a) = asked_firmware b p.past 0 (calls.Take a)

-- the act, with what is true of it
abbrev truly : BoardValue → Port → Act → Act
truly b p (Calls c regs said) = Calls c regs (asked_firmware b p.past c (calls.Smc regs))
truly b p (Enters c said) = Enters c (said_in b p c (stage_at p c))
truly b p (Takes c k said) = Takes c k (said_to b p (indexed (acks p.past) k))
truly b p (Delivers k m) = Delivers k (of_moment m (indexed (sent p.past) k))
truly b p act = act

unfoldable pub play : Port → List Act → Port
play p [] = p
play p (act ∷ acts) = play (step board p (truly board p act)) acts

-- the port of two clusters of two cores after these acts, the first one first
abbrev pub after : List Act → Port
after acts = play (cold board []) acts

-- what an example unfolds
unfoldable pub playing : Unit {0}
unfolding computing step state play rebooted
playing = tt

-- Clauses ----------------------------------------------------------------------------------------

pub data Clause : Type 0 where
  Powered : Clause
  Awake : Clause
  Holder : Clause
  Alone : Clause
  Free : Clause
  Whole : Clause
  ByWord : Clause
  Stood : Clause
  Entered : Clause

-- whether each core that executes something has its power, and whether no domain is down above one
-- that has not said that it stands
abbrev pub is_powered : BoardValue → (ℕ → Bool) → (ℕ → ℕ → Bool) → Bool
is_powered b executing cut = at_each_core b (λ c. not (executing c)
    || at_each_level b (λ l. not (cut l (up b l c))))

abbrev pub is_awake : BoardValue → (ℕ → Bool) → (ℕ → ℕ → ℕ) → Bool
is_awake b standing depth = at_each_core b (λ c. standing c
    || at_each_level b (λ l. depth l (up b l c) == 0))

-- whether this is so of who has the lock
abbrev pub of_holder : Option ℕ → (ℕ → Bool) → Bool
of_holder None test = true
of_holder (Some c) test = test c

-- whether two cores that are inside the firmware are one
abbrev is_one : Port → ℕ → ℕ → Bool
is_one p c d = not (is_some (p.row c).begun && is_some (p.row d).begun) || c == d

abbrev stands_so : Port → ℕ → Bool
stands_so p c = words p c == p.values.starts c

abbrev pub enters_last : Option Start → Stage → Bool
enters_last last (Entering s) = is_shown last (Some s)
enters_last last y = true

-- whether a clause holds in a port of this board
abbrev pub holds : BoardValue → Port → Clause → Bool
holds b p Powered = is_powered b (λ c. executes (stage_at p c)) p.cut
holds b p Awake = is_awake b (λ c. has_stopped (stage_at p c)) p.values.depth
holds b p Holder = of_holder p.lock (λ c. may_hold (stage_at p c))
holds b p Alone = at_each_core b (λ c. at_each_core b (λ d. is_one p c d))
holds b p Free = is_some p.lock || p.whole
holds b p Whole = of_holder p.lock (λ c. is_some (p.row c).begun || p.whole)
holds b p ByWord = at_each_core b (λ c. not (stands_so p c) || has_stopped (stage_at p c))
holds b p Stood = at_each_core b (λ c. not (has_stopped (stage_at p c)) || stands_so p c)
holds b p Entered = at_each_core b (λ c. enters_last (last_start p.values c) (stage_at p c))

abbrev failing_of : Port → List Clause → List Clause
failing_of p [] = []
failing_of p (k ∷ ks) = if holds board p k then failing_of p ks else (k ∷ failing_of p ks)

-- the clauses that fail after these acts
abbrev pub failing : List Act → List Clause
failing acts = failing_of (after acts)
    (Powered ∷ Awake ∷ Holder ∷ Alone ∷ Free ∷ Whole ∷ ByWord ∷ Stood ∷ Entered ∷ [])

-- whether a start that is taken up is the last one, and was not used
abbrev pub is_last : Option Start → Option Start → ℕ → ℕ → ℕ → Bool
is_last door last opened used starts =
    is_shown door last && (opened == starts && nat_lt used starts)

-- so is what this core takes up
abbrev pub takes_last : Port → ℕ → Bool
takes_last p c = is_last (p.row c).door (last_start p.values c) (p.row c).opened (p.row c).used
    (p.values.starts c)

-- the same after these acts
abbrev pub takes_last_start : (List Act × ℕ) → Bool
takes_last_start (acts, c) = takes_last (after acts) c

-- Runs -------------------------------------------------------------------------------------------

abbrev pub door : ℕ → List Act
door c = Writes c ∷ Opens c ∷ []

-- a core takes its start up, and enters
abbrev pub comes : ℕ → List Act
comes c = TakesUp c ∷ Locks c ∷ enters c ∷ Finishes c ∷ Unlocks c ∷ []

-- the boot core comes, and has core 3 started
abbrev pub on_3 : List Act
on_3 = door 0 ++ comes 0
    ++ (Locks 0 ∷ asks 0 0xc4000003 0x101 0x40001000 7 ∷ Finishes 0 ∷ Unlocks 0 ∷ delivers 0 ∷ [])

-- core 3 comes, and its CPU_OFF is answered: it is in the monitor, with the lock
abbrev pub off_called : List Act
off_called = on_3 ++ door 3 ++ comes 3
    ++ (Locks 3 ∷ asks 3 0x84000002 0 0 0 ∷ Finishes 3 ∷ [])

abbrev pub off_3 : List Act
off_3 = off_called ++ (Unlocks 3 ∷ Stands 3 ∷ [])

-- a message of life 1, of core 3 in its start, and its Down there
abbrev pub of_3 : Kind → ℕ → List Part → MessageValue
of_3 kind number parts =
    record { kind = kind; core = record { number = 3 }; life = 1; number = number; parts = parts }

abbrev pub down_3 : MessageValue
down_3 = of_3 kinds.Down 1 (part 0 3 1 ∷ part 1 3 1 ∷ [])

-- a start by a wake-up
abbrev pub start_of : ℕ → ℕ → Start
start_of life number = record { life = life; number = number; cause = causes.Wake }

-- Cases -------------------------------------------------------------------------------------------
-- Worked examples of messages stand for these cases: on boards of height 2 and 3, of the boot core
-- and of core 3, in life 1 and in life 2, in standby and as a life ends.

-- each core was started once, and the domains are so deep
abbrev pub at_depths : ℕ → (ℕ → ℕ → ℕ) → Values
at_depths life depth = record {
  life = Some life;
  starts = λ c. 1;
  cause = λ c. causes.On;
  depth = depth;
}

-- each domain is fully on, or powered down up to this level
abbrev pub on : ℕ → ℕ → ℕ
on level place = 0

abbrev pub down_to : ℕ → ℕ → ℕ → ℕ
down_to most level place = if nat_le level most then 3 else 0

-- a Down of a core of four that were started once each
abbrev pub down_of : ℕ → ℕ → List Part → MessageValue
down_of c life parts = record {
  kind = Down;
  core = record { number = c };
  life = life;
  number = 1;
  parts = parts;
}

-- with a part of each level, and in standby
abbrev pub whole : List Part
whole = part 0 3 1 ∷ part 1 3 2 ∷ part 2 3 4 ∷ []

abbrev pub whole_tall : List Part
whole_tall = part 0 3 1 ∷ part 1 3 1 ∷ part 2 3 2 ∷ part 3 3 4 ∷ []

abbrev pub standby : List Part
standby = part 0 1 1 ∷ part 1 1 2 ∷ part 2 1 4 ∷ []

-- the system is turned off, or reset
abbrev pub of_system : Kind → ℕ → MessageValue
of_system kind life = record {
  kind = kind;
  core = record { number = 0 };
  life = life;
  number = 1;
  parts = [];
}

-- The cases --------------------------------------------------------------------------------------

-- what is so of each message on its board
abbrev pub Each : (BoardValue → MessageValue → Type 0) → Type 0
Each P =
    -- boot_core: a Down of the boot core
    P board (down_of 0 1 whole)
    -- height_3: on a board of height 3
    × P tall (down_of 0 1 whole_tall)
    -- life_2: core 3 in life 2
    × P board (down_of 3 2 whole)
    -- in_standby: a Down in standby
    × P board (down_of 0 1 standby)
    -- life_ends: the system is turned off
    × P board (of_system Off 1)

-- but for what ends the life
abbrev pub EachGoing : (BoardValue → MessageValue → Type 0) → Type 0
EachGoing P =
    -- boot_core: a Down of the boot core
    P board (down_of 0 1 whole)
    -- height_3: on a board of height 3
    × P tall (down_of 0 1 whole_tall)
    -- life_2: core 3 in life 2
    × P board (down_of 3 2 whole)
    -- in_standby: a Down in standby
    × P board (down_of 0 1 standby)

pub sendable : Each IsSendable
unfolding playing
sendable = search arith
