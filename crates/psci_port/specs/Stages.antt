-- Where a core is on a machine, between any two steps of any core.
use Rattle.std.specs.Prelude.{Bool, true, false, Option, None, Some}
use Rattle.psci_ctl_spec.specs.psci_messages.declared.start.Cause.{Cause}
use Rattle.psci_ctl_spec.specs.psci_messages.declared.start.Cause.TheVariants as causes
use Rattle.psci_ctl_spec.specs.psci_messages.declared.start.Start.{Start}
use Rattle.psci_world_spec.specs.psci_fw_spec.declared.outcome.Act.{Act as Outcome}
use Rattle.psci_world_spec.specs.psci_fw_spec.declared.outcome.Act.TheVariants as outcomes
use Rattle.psci_world_spec.specs.declared.event.Event.{Event}
use Rattle.psci_world_spec.specs.declared.event.Event.TheVariants.{Call, Enter}
use Rattle.psci_world_spec.specs.declared.place.Place.{Place}
use Rattle.psci_world_spec.specs.declared.place.Place.TheVariants.{Started, Running, Stopped}
use Rattle.psci_world_spec.specs.declared.said.Said.{Said}
use Rattle.psci_world_spec.specs.declared.said.Said.TheVariants.{Fw}

-- Where a core is.
pub data Stage : Type 0 where
  -- it stands, or has no power: it looks at its door and waits there, which power may cut off
  Standing : Stage
  -- it was started, and has not taken its start up
  AtDoor : Stage
  -- it has taken up this start, and is on its way into the firmware
  Entering : (start : Start) → Stage
  -- in the normal world, or in the monitor by a call of it
  Normal : Stage
  -- in the monitor, on its way to its stop
  Leaving : Stage
  -- it said that it stands, and still executes: its power goes at its WFI, and no earlier
  Armed : Stage
  -- it was armed, and was started, by itself or by others: it comes to its door without the lock
  Woken : Stage

-- What holds of a stage --------------------------------------------------------------------------

-- a core executes something that power may not cut off, the monitor included
abbrev pub executes : Stage → Bool
executes Standing = false
executes AtDoor = true
executes (Entering s) = true
executes Normal = true
executes Leaving = true
executes Armed = true
executes Woken = true

-- its WFI is still to come
abbrev pub is_armed : Stage → Bool
is_armed Standing = false
is_armed AtDoor = false
is_armed (Entering s) = false
is_armed Normal = false
is_armed Leaving = false
is_armed Armed = true
is_armed Woken = false

-- it has said that it stands
abbrev pub has_stopped : Stage → Bool
has_stopped Standing = true
has_stopped AtDoor = false
has_stopped (Entering s) = false
has_stopped Normal = false
has_stopped Leaving = false
has_stopped Armed = true
has_stopped Woken = false

-- it is inside a start that it took up, and has not said that it stands
abbrev pub is_inside : Stage → Bool
is_inside Standing = false
is_inside AtDoor = false
is_inside (Entering s) = true
is_inside Normal = true
is_inside Leaving = true
is_inside Armed = false
is_inside Woken = false

-- it may have the lock: from where it took its start up until it stands, and while it is armed,
-- though it was started meanwhile
abbrev pub may_hold : Stage → Bool
may_hold Standing = false
may_hold AtDoor = false
may_hold (Entering s) = true
may_hold Normal = true
may_hold Leaving = true
may_hold Armed = true
may_hold Woken = true

-- it was started, and has not taken its start up
abbrev pub is_started : Stage → Bool
is_started Standing = false
is_started AtDoor = true
is_started (Entering s) = false
is_started Normal = false
is_started Leaving = false
is_started Armed = false
is_started Woken = true

-- it looks at its door
abbrev pub looks : Stage → Bool
looks Standing = true
looks AtDoor = true
looks (Entering s) = false
looks Normal = false
looks Leaving = false
looks Armed = false
looks Woken = false

-- the place of the world's definitions, which know nothing of the monitor
abbrev pub place_of : Stage → Place
place_of Standing = Stopped
place_of AtDoor = Started
place_of (Entering s) = Started
place_of Normal = Running
place_of Leaving = Stopped
place_of Armed = Stopped
place_of Woken = Started

-- What leaves a core where -----------------------------------------------------------------------

-- a start, which an armed core finds later than at once
abbrev pub started_at : Stage → Stage
started_at Standing = AtDoor
started_at AtDoor = AtDoor
started_at (Entering s) = AtDoor
started_at Normal = AtDoor
started_at Leaving = AtDoor
started_at Armed = Woken
started_at Woken = Woken

-- where that is no reset
abbrev pub stage_by : Cause → Stage → Stage
stage_by causes.Boot before = started_at before
stage_by causes.On before = started_at before
stage_by causes.Wake before = started_at before
stage_by causes.Reset before = AtDoor

-- an interrupt, which a core that was started hears too
abbrev pub roused_at : Stage → Stage
roused_at Standing = Armed
roused_at AtDoor = Woken
roused_at (Entering s) = Entering s
roused_at Normal = Normal
roused_at Leaving = Leaving
roused_at Armed = Armed
roused_at Woken = Woken

-- the start that it reads at its door, if it reads one
abbrev pub stage_in : Option Start → Stage
stage_in None = AtDoor
stage_in (Some s) = Entering s

-- the firmware's outcome
abbrev pub stage_after : Outcome → Stage
stage_after (outcomes.Return code) = Normal
stage_after outcomes.Stop = Leaving
stage_after (outcomes.Enter address context) = Normal
stage_after outcomes.Resume = Normal

-- the end of what it was asked: a call or an entry goes by its outcome, an acknowledgement moves
-- nobody
abbrev pub stage_said : Event → Said → Stage → Stage
stage_said (Call c regs) (Fw act sent) before = stage_after act
stage_said (Enter c) (Fw act sent) before = stage_after act
stage_said event said before = before
