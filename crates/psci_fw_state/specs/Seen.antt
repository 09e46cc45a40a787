-- What the state of the firmware is seen as: the values that it keeps.
use Rattle.std.specs.Prelude.{◌≡◌, ◌<◌, ℕ, ◌==◌, Bool, true, false, nat_lt, List, length, Option}
use Rattle.std.specs.Prelude.{None}
use Rattle.std.specs.Prelude.{if◌then◌else◌}
use Rattle.psci_board.specs.Board.{BoardValue, IsBoard, cores}
use Rattle.psci_messages.specs.Message.{MessageValue}
use Rattle.psci_messages.specs.Slots.{SlotsValue, message_in}
use Rattle.psci_messages.specs.Slots.Slot.{OfCore, OfSystem}
use Rattle.psci_state.specs.declared.cores.Activity.{Activity}
use Rattle.psci_state.specs.declared.cores.Activity.TheVariants as activities
use Rattle.psci_tree.specs.Recount.{TreeValue, IsDomainTree, state_at, granted_at, known_at}
use Rattle.psci_tree.specs.Recount.{is_confirmed_at}
use Rattle.psci_fw_spec.specs.declared.mode.SuspendMode.{SuspendMode}
use Rattle.psci_fw_spec.specs.declared.status.Status.{Status}
use Rattle.psci_fw_spec.specs.declared.status.Status.TheVariants.{On, Off, Pending}
use Rattle.psci_fw_spec.specs.Phases.{Phase}
use Rattle.psci_fw_spec.specs.Phases as phases
use Rattle.psci_fw_spec.specs.Values.{Values}
use Rattle.psci_fw_state.specs.declared.row.CoreRow.{CoreRow}
use Rattle.psci_fw_state.specs.declared.counts.StatusCounts.{StatusCounts}
use Rattle.psci_fw_state.specs.Counts.{AreCounts}
use Rattle.psci_fw_state.specs.Rows.{row_at, status_at}

-- The state of the firmware, as contracts see it.
pub record StateValue : Type 0 where
  -- whose power domains and cores they are
  pub board : BoardValue
  -- 0 before any core has entered
  pub life : ℕ
  pub halting : Bool
  pub mode : SuspendMode
  -- what each core asks, its known start, what each domain was granted, and what is confirmed
  pub tree : TreeValue
  -- of each core, in the order of their numbers
  pub rows : List CoreRow
  -- of each power domain of level 1 and up, by level and place
  pub counts : List (List StatusCounts)
  pub slots : SlotsValue

-- what a core is to the firmware: one that keeps its domains from going down runs, unless it is
-- ON_PENDING
abbrev pub phase_by : Status → Activity → Phase
phase_by On activities.Active = phases.Running
phase_by Off activities.Active = phases.Running
phase_by Pending activities.Active = phases.Pending
phase_by On (activities.Suspended ask) = phases.Suspended ask
phase_by Off (activities.Suspended ask) = phases.Suspended ask
phase_by Pending (activities.Suspended ask) = phases.Suspended ask
phase_by On activities.Away = phases.Away
phase_by Off activities.Away = phases.Away
phase_by Pending activities.Away = phases.Away

-- what a core does that has started and stops, by whether it is pending
abbrev pub stopped : Bool → Activity
stopped true = activities.Active
stopped false = activities.Away

-- whether a core of this phase is pending
abbrev pub is_pending_phase : Phase → Bool
is_pending_phase phases.Pending = true
is_pending_phase phases.Running = false
is_pending_phase (phases.Suspended ask) = false
is_pending_phase phases.Away = false

-- the values in a state
unfoldable pub values_in : StateValue → Values
values_in s = record {
  life = s.life;
  halting = s.halting;
  mode = s.mode;
  known = λ c. known_at s.tree c;
  status = λ c. (row_at s.rows c).status;
  phase = λ c. phase_by (row_at s.rows c).status (state_at s.tree c).activity;
  opening = λ c. (row_at s.rows c).opening;
  granted = λ level place. granted_at s.tree level place;
  confirmed = λ level place. is_confirmed_at s.tree level place;
  outstanding = λ slot. message_in s.slots slot;
}

-- Shapes: the tree of the board's power domains, and a row and a slot for each of its cores. And
-- what is kept of each power domain is what is counted of the rows of the cores below it.
pub record IsState (s : StateValue) : Type 0 where
  pub board : IsBoard s.board
  pub tree : IsDomainTree s.tree
  pub levels : s.tree.levels ≡ s.board.levels
  pub rows : length s.rows ≡ cores s.board
  pub counts : AreCounts s.board.levels (status_at s.rows) s.counts
  pub slots : length s.slots.cores ≡ cores s.board

-- a core of the board is running
pub record IsRunningCore (s : StateValue) (c : ℕ) : Type 0 where
  pub inside : c < cores s.board
  pub running : (values_in s).phase c ≡ phases.Running

-- the outstanding message of the core of this number, or of the system at the number of cores
abbrev pub message_shown : BoardValue → Values → ℕ → Option MessageValue
message_shown b v number =
    if nat_lt number (cores b) then v.outstanding (OfCore number)
    else (if number == cores b then v.outstanding OfSystem else None)
