-- What holds of the values after every history of legal replies.
use Rattle.std.specs.Prelude.{◌+◌, ◌<◌, ◌≡◌, ◌≤◌, Bool, false, if◌then◌else◌, is_some, nat_le}
use Rattle.std.specs.Prelude.{true, ℕ}
use Rattle.psci_board.specs.Board.{BoardValue, cores, height, up}
use Rattle.psci_state.specs.PowerState.{highest_of, is_deep, IsAsk, power_down}
use Rattle.psci_state.specs.Cores.{asks, is_active, is_away}
use Rattle.psci_messages.specs.View.{domain_of, is_all_away, least_ask, PowerView}
use Rattle.psci_fw_spec.specs.Phases as phases
use Rattle.psci_fw_spec.specs.Phases.{activity_of, Phase}
use Rattle.psci_fw_spec.specs.Values.{Values}
use Rattle.psci_fw_spec.specs.declared.mode.SuspendMode.TheVariants.{Platform}
use Rattle.psci_fw_spec.specs.declared.status.Status.{Status}
use Rattle.psci_fw_spec.specs.declared.status.Status.TheVariants.{Off, On, Pending}

-- What claims are made from, as the firmware's values say it --------------------------------------

-- the depth that a core asks of its domain of this level: nothing where it runs or is pending, all
-- where it is off or going off, and what it was suspended with; above the board's height nothing
abbrev pub ask : BoardValue → Values → ℕ → ℕ → ℕ
ask b v c level = if nat_le level (height b) then asks (activity_of (v.phase c)) level else 0

-- what a claim is made from
unfoldable pub view : BoardValue → Values → PowerView
view b v = record {
  ask = ask b v;
  known = v.known;
  is_active = λ c. is_active (activity_of (v.phase c));
  is_away = λ c. is_away (activity_of (v.phase c));
  granted = v.granted;
}

-- Invariant ---------------------------------------------------------------------------------------

-- whether status and phase say the same of a core: both that it is pending, or neither; a core
-- that runs or is suspended is ON
abbrev pub agrees : Status → Phase → Bool
agrees On phases.Pending = false
agrees On phases.Running = true
agrees On (phases.Suspended ask) = true
agrees On phases.Away = true
agrees Off phases.Pending = false
agrees Off phases.Running = false
agrees Off (phases.Suspended ask) = false
agrees Off phases.Away = true
agrees Pending phases.Pending = true
agrees Pending phases.Running = false
agrees Pending (phases.Suspended ask) = false
agrees Pending phases.Away = false

-- a suspended core asks what a power state of the board can ask
abbrev pub IsPhase : BoardValue → Phase → Type 0
IsPhase b phases.Pending = Unit {0}
IsPhase b phases.Running = Unit {0}
IsPhase b (phases.Suspended ask) = IsAsk ask × (highest_of ask ≤ height b)
IsPhase b phases.Away = Unit {0}

-- whether a core of this phase goes on at an opening: it is pending, or was powered down
abbrev pub is_expected : Phase → Bool
is_expected phases.Pending = true
is_expected phases.Running = false
is_expected (phases.Suspended ask) = is_deep ask
is_expected phases.Away = false

-- What holds while the life is not halting.
pub record AreAwake (b : BoardValue) (v : Values) : Type 0 where
  -- an opening waits exactly where a core goes on at one
  pub opening : (c : ℕ) → is_some (v.opening c) ≡ is_expected (v.phase c)
  -- a core is granted what it asks of itself
  pub own : (c : ℕ) → c < cores b → v.granted 0 c ≡ ask b v c 0
  -- a domain with every core below off or going off is granted power-down
  pub away : (c level : ℕ) → c < cores b → level ≤ height b
      → is_all_away b (view b v) (domain_of b c level) ≡ true
      → v.granted level (up b level c) ≡ power_down
  -- in platform-coordinated mode a domain is granted the least ask of the cores below
  pub least : v.mode ≡ Platform → (c level : ℕ) → c < cores b → level ≤ height b
      → v.granted level (up b level c) ≡ least_ask b (view b v) (domain_of b c level)

-- Values as the firmware keeps them on this board.
pub record AreValues (b : BoardValue) (v : Values) : Type 0 where
  -- no known start is above the start limit
  pub known : (c : ℕ) → v.known c ≤ b.starts
  -- status and phase agree
  pub agree : (c : ℕ) → agrees (v.status c) (v.phase c) ≡ true
  -- what suspended cores ask
  pub phase : (c : ℕ) → IsPhase b (v.phase c)
  -- no domain is granted more than the one below it on a path
  pub nested : (c level : ℕ) → c < cores b → level < height b
      → v.granted (level + 1) (up b (level + 1) c) ≤ v.granted level (up b level c)
  -- no core is granted more than it asks of itself
  pub asked : (c : ℕ) → c < cores b → v.granted 0 c ≤ ask b v c 0
  -- more while the life is not halting
  pub awake : v.halting ≡ false → AreAwake b v
