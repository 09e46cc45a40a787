-- What a core is to the firmware.
use Rattle.std.specs.Prelude.{ℕ, Bool, true, false, not, List}
use Rattle.psci_state.specs.PowerState.{is_deep}
use Rattle.psci_state.specs.declared.cores.Activity.{Activity}
use Rattle.psci_state.specs.declared.cores.Activity.TheVariants as activities

-- What a core is to the firmware.
pub data Phase : Type 0 where
  -- it was asked on, by CPU_ON or by the start of a life, and has not gone on since
  Pending : Phase
  -- it executes, as far as the firmware knows: it was answered, or it entered and went on
  Running : Phase
  -- it was suspended with this ask, a depth for each level from its own up
  Suspended : (ask : List ℕ) → Phase
  -- it is off, or going off: it stopped otherwise, or did nothing yet in this life
  Away : Phase

-- whether a core of this phase may call
abbrev pub is_running : Phase → Bool
is_running Pending = false
is_running Running = true
is_running (Suspended ask) = false
is_running Away = false

-- whether a core of this phase is off or going off
abbrev pub is_away : Phase → Bool
is_away Pending = false
is_away Running = false
is_away (Suspended ask) = false
is_away Away = true

-- whether a core of this phase keeps the system in platform-coordinated mode: it is suspended or
-- pending
abbrev pub is_suspended_or_pending : Phase → Bool
is_suspended_or_pending Pending = true
is_suspended_or_pending Running = false
is_suspended_or_pending (Suspended ask) = true
is_suspended_or_pending Away = false

-- whether a core of this phase is suspended in standby or retention, so that it can resume
abbrev pub is_resumable : Phase → Bool
is_resumable Pending = false
is_resumable Running = false
is_resumable (Suspended ask) = not (is_deep ask)
is_resumable Away = false

-- what an outcome leaves of a phase: a core that is pending stays so until it goes on
abbrev pub unless_pending : Phase → Phase → Phase
unless_pending Pending left = Pending
unless_pending Running left = left
unless_pending (Suspended ask) left = left
unless_pending Away left = left

-- a phase as the tree of power domains keeps it
abbrev pub activity_of : Phase → Activity
activity_of Pending = activities.Active
activity_of Running = activities.Active
activity_of (Suspended ask) = activities.Suspended ask
activity_of Away = activities.Away
