-- A port, act by act: what its cores and its power controller do, and what each has written down.
-- Between two acts anything else may happen.
use Rattle.std.specs.Prelude.{◌&&◌, ◌==◌, ◌∷◌, [], Bool, false, if◌then◌else◌, length, List}
use Rattle.std.specs.Prelude.{None, not, Option, Some, true, ℕ}
use Rattle.psci_board.specs.Board.{BoardValue, is_on_path}
use Rattle.psci_ctl_spec.specs.psci_messages.Message.{MessageValue}
use Rattle.psci_ctl_spec.specs.psci_messages.declared.start.Cause.{Cause}
use Rattle.psci_ctl_spec.specs.psci_messages.declared.start.Cause.TheVariants as causes
use Rattle.psci_ctl_spec.specs.psci_messages.declared.start.Start.{Start}
use Rattle.psci_ctl_spec.specs.declared.call.CtlCall.{CtlCall}
use Rattle.psci_ctl_spec.specs.declared.call.CtlCall.TheVariants as asked
use Rattle.psci_ctl_spec.specs.Replies.{Begins, change, Deepens, Effect, effect_of, Ends}
use Rattle.psci_ctl_spec.specs.Replies.{last_start, Nothing, reply, Starts}
use Rattle.psci_ctl_spec.specs.Values.{Values, start_of_life}
use Rattle.psci_world_spec.specs.psci_abi.declared.registers.Regs.{Regs}
use Rattle.psci_world_spec.specs.declared.event.Event.{Event}
use Rattle.psci_world_spec.specs.declared.event.Event.TheVariants.{Call, Deliver, Enter, Reset}
use Rattle.psci_world_spec.specs.declared.event.Event.TheVariants.{Take, Wake}
use Rattle.psci_world_spec.specs.declared.said.Record.{Record}
use Rattle.psci_world_spec.specs.declared.said.Said.{Said}
use Rattle.psci_world_spec.specs.Legal.{acks, said_by}
use Rattle.psci_port.specs.Rebooted.{rebooted}
use Rattle.psci_port.specs.Stages.{Armed, AtDoor, roused_at, Stage, stage_by, stage_in}
use Rattle.psci_port.specs.Stages.{stage_said, Standing}

-- The state --------------------------------------------------------------------------------------

-- What there is of one core.
pub record Row : Type 0 where
  pub stage : Stage
  -- the call of the firmware that it has begun, with what that is going to say by what it found in
  -- the firmware's memory
  pub begun : Option Record
  -- the start that stands at its door, for which start the door was opened, which of these the core
  -- used, and in which it said that it stands
  pub door : Option Start
  pub opened : ℕ
  pub used : ℕ
  pub stopped : ℕ
  -- it is held in reset
  pub held : Bool

-- What there is of the whole port.
pub record Port : Type 0 where
  -- what the firmware and the power controller were asked and said since the last cold reset, the
  -- newest first; and what in each run before it
  pub past : List Record
  pub before : List (List Record)
  -- what the power controller keeps
  pub values : Values
  pub row : ℕ → Row
  -- who has the lock
  pub lock : Option ℕ
  -- the firmware is in its place: a call takes it out as it begins, and puts it back as it ends
  pub whole : Bool
  -- the domain of this level and place has no power
  pub cut : ℕ → ℕ → Bool

-- nothing is written down of a core
abbrev pub blank : Stage → Row
blank stage = record {
  stage = stage;
  begun = None;
  door = None;
  opened = 0;
  used = 0;
  stopped = 0;
  held = false;
}

-- as a life begins the boot core was started
abbrev pub first_row : ℕ → Row
first_row c = if c == 0 then blank AtDoor else blank Standing

-- and its path has power
abbrev pub first_cut : BoardValue → ℕ → ℕ → Bool
first_cut b level place = not (is_on_path b 0 level place)

-- a cold reset, after these runs
abbrev pub cold : BoardValue → List (List Record) → Port
cold b before = record {
  past = [];
  before = before;
  values = start_of_life b;
  row = first_row;
  lock = None;
  whole = true;
  cut = first_cut b;
}

-- where each core is
abbrev pub stage_at : Port → ℕ → Stage
stage_at p c = (p.row c).stage

-- the start in whose stop each core said that it stands
abbrev pub words : Port → ℕ → ℕ
words p c = (p.row c).stopped

-- What happens -----------------------------------------------------------------------------------

-- An act of a core or of the power controller.
pub data Act : Type 0 where
  -- a core takes the lock, and gives it back
  Locks : (core : ℕ) → Act
  Unlocks : (core : ℕ) → Act
  -- it begins a call of the firmware, which is going to say this: as a caller, as it enters, and
  -- with an acknowledgement
  Calls : (core : ℕ) → (regs : Regs) → (said : Said) → Act
  Enters : (core : ℕ) → (said : Said) → Act
  Takes : (core : ℕ) → (index : ℕ) → (said : Said) → Act
  -- that call ends, and its message stands in the mailbox
  Finishes : (core : ℕ) → Act
  -- it takes up the start at its open door
  TakesUp : (core : ℕ) → Act
  -- it says that it stands, and from here on its power may go
  Stands : (core : ℕ) → Act
  -- it says that it stands, with its WFI still to come; and comes there
  Arms : (core : ℕ) → Act
  Sleeps : (core : ℕ) → Act
  -- the power controller: the message of this number, a wake-up, a reset; and both steps of a door
  Delivers : (index : ℕ) → (message : MessageValue) → Act
  Wakes : (core : ℕ) → Act
  Resets : (core : ℕ) → Act
  -- an interrupt ends the WFI of a core, or brings its power back: it is armed again
  Rouses : (core : ℕ) → Act
  -- an armed core hears its own wake-up, as the power controller; and comes to its door
  Rises : (core : ℕ) → Act
  Turns : (core : ℕ) → Act
  Writes : (core : ℕ) → Act
  Opens : (core : ℕ) → Act
  -- the power of a domain goes
  Cuts : (level : ℕ) → (place : ℕ) → Act
  -- all is reset, the power controller included, and nobody asked for it
  Restarts : Act
  -- all but the power controller is, which goes on to its next life
  Reboots : Act

-- What the power controller leaves ---------------------------------------------------------------

-- a core that is reset is held there; one that is started otherwise is found in its stop
abbrev pub held_by : Cause → Bool → Bool
held_by causes.Boot before = before
held_by causes.On before = before
held_by causes.Wake before = before
held_by causes.Reset before = true

-- a core is started, and what it has begun is cut off
abbrev pub started : Cause → Row → Row
started cause r =
    record r { stage = stage_by cause r.stage; begun = None; held = held_by cause r.held }

-- what the power controller did leaves this of a core: all is gone as a life ends
abbrev pub row_by : ℕ → Effect → Row → Row
row_by c Nothing r = r
row_by c (Starts d cause) r = if c == d then started cause r else r
row_by c (Deepens d ps) r = r
row_by c Ends r = blank Standing
row_by c Begins r = first_row c

-- the lock is free once a life ends
abbrev pub lock_by : Effect → Option ℕ → Option ℕ
lock_by Nothing before = before
lock_by (Starts d cause) before = before
lock_by (Deepens d ps) before = before
lock_by Ends before = None
lock_by Begins before = None

-- and the firmware is made anew
abbrev pub whole_by : Effect → Bool → Bool
whole_by Nothing before = before
whole_by (Starts d cause) before = before
whole_by (Deepens d ps) before = before
whole_by Ends before = true
whole_by Begins before = true

-- a start brings the power of its whole path back
abbrev pub cut_by : BoardValue → ℕ → ℕ → Effect → Bool → Bool
cut_by b level place Nothing before = before
cut_by b level place (Starts d cause) before =
    if is_on_path b d level place then false else before
cut_by b level place (Deepens d ps) before = before
cut_by b level place Ends before = before
cut_by b level place Begins before = first_cut b level place

-- the power controller has done this
abbrev pub moved : BoardValue → Port → Effect → Record → Port
moved b p f r = record {
  past = r ∷ p.past;
  before = p.before;
  values = change b f p.values;
  row = λ c. row_by c f (p.row c);
  lock = lock_by f p.lock;
  whole = whole_by f p.whole;
  cut = λ level place. cut_by b level place f (p.cut level place);
}

-- what it is asked, with its reply
abbrev pub told : BoardValue → Port → Event → CtlCall → Record
told b p event call =
    record { event = event; said = said_by (length (acks p.past)) (reply b p.values call) }

-- it is asked this, looks, and switches
abbrev pub commanded : BoardValue → Port → Event → CtlCall → Port
commanded b p event call =
    moved b p (effect_of b call (reply b p.values call)) (told b p event call)

-- how many lives there were
abbrev pub lives_of : Option ℕ → ℕ
lives_of None = 0
lives_of (Some life) = life

-- All but the power controller was reset: it goes on to its next life. A firmware that is made anew
-- then is one that knows of as many lives, each of which its boot core ended (`law_new_life`).
abbrev pub going_on : BoardValue → Port → Port
going_on b p = record (cold b (p.past ∷ p.before)) {
  past = rebooted b (lives_of p.values.life);
  values = change b Begins p.values;
}

-- What a core leaves -----------------------------------------------------------------------------

-- of one core there is this
abbrev pub with_row : Port → ℕ → Row → Port
with_row p c r = record p { row = λ k. if k == c then r else p.row k }

-- it begins a call of the firmware
abbrev pub begins : Port → ℕ → Record → Port
begins p c r = record (with_row p c (record (p.row c) { begun = Some r })) { whole = false }

-- and ends it
abbrev pub ended : Record → Row → Row
ended r row = record row { begun = None; stage = stage_said r.event r.said row.stage }

-- the call that it has begun ends, if it has begun one
abbrev pub finished : Port → ℕ → Option Record → Port
finished p c None = p
finished p c (Some r) =
    record (with_row p c (ended r (p.row c))) { past = r ∷ p.past; whole = true }

-- it takes up what its door is open for
abbrev pub taking_up : Row → Row
taking_up r = record r { used = r.opened; stage = stage_in r.door }

-- it says that it stands
abbrev pub stopping : Stage → Row → Row
stopping stage r = record r { stopped = r.used; stage = stage }

-- it is elsewhere
abbrev pub gone_to : Port → ℕ → Stage → Port
gone_to p c stage = with_row p c (record (p.row c) { stage = stage })

-- it is brought back, and its path has power
abbrev pub roused : BoardValue → Port → ℕ → Port
roused b p c = record (gone_to p c (roused_at (stage_at p c))) {
  cut = λ level place. if is_on_path b c level place then false else p.cut level place;
}

-- it hears its own wake-up, as the power controller, and has the lock as before
abbrev pub woken : BoardValue → Port → ℕ → Port
woken b p c = commanded b p (Wake c) (asked.Wake (record { number = c }) (words p c))

-- the same, with the lock in hand
abbrev pub rising : BoardValue → Port → ℕ → Port
rising b p c = record (woken b p c) { lock = p.lock }

-- All acts ---------------------------------------------------------------------------------------

-- what an act leaves
unfoldable pub step : BoardValue → Port → Act → Port
step b p (Locks c) = record p { lock = Some c }
step b p (Unlocks c) = record p { lock = None }
step b p (Calls c regs said) = begins p c (record { event = Call c regs; said = said })
step b p (Enters c said) = begins p c (record { event = Enter c; said = said })
step b p (Takes c k said) = begins p c (record { event = Take k; said = said })
step b p (Finishes c) = finished p c (p.row c).begun
step b p (TakesUp c) = with_row p c (taking_up (p.row c))
step b p (Stands c) = with_row p c (stopping Standing (p.row c))
step b p (Arms c) = with_row p c (stopping Armed (p.row c))
step b p (Sleeps c) = gone_to p c Standing
step b p (Delivers k m) = commanded b p (Deliver k) (asked.Deliver m)
step b p (Wakes c) = woken b p c
step b p (Resets c) = commanded b p (Reset c) (asked.Reset (record { number = c }))
step b p (Rouses c) = roused b p c
step b p (Rises c) = rising b p c
step b p (Turns c) = gone_to p c AtDoor
step b p (Writes c) = with_row p c (record (p.row c) { door = last_start p.values c })
step b p (Opens c) =
    with_row p c (record (p.row c) { opened = p.values.starts c; held = false })
step b p (Cuts level place) =
    record p { cut = λ l q. if l == level && q == place then true else p.cut l q }
step b p Restarts = cold b (p.past ∷ p.before)
step b p Reboots = going_on b p

-- the state after these acts, the newest first
unfoldable pub state : BoardValue → List Act → Port
state b [] = cold b []
state b (act ∷ acts) = step b (state b acts) act
