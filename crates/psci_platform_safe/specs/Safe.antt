-- Safe: the five sentences, of a platform's history in its own words. They hold after all records
-- so far, the newest first.
use Rattle.std.specs.Prelude.{◌++◌, ◌<◌, ◌∷◌, ◌≡◌, ◌≤◌, ◌⊎◌, [], length, List, Option, pos}
use Rattle.std.specs.Prelude.{slice_get, slice_index, Some, true, ℕ}
use Rattle.psci_headline.specs.Safe.{AreTakenUp, executes, live_claims, was_powered_down}
use Rattle.psci_headline.specs.Laws.{is_off_depth, is_standby_depth, WasSoDeep}
use Rattle.psci_headline.specs.psci_abi.Calls.{request_of, success}
use Rattle.psci_headline.specs.psci_abi.declared.registers.Regs.{Regs}
use Rattle.psci_headline.specs.psci_abi.declared.request.Request.{Request}
use Rattle.psci_headline.specs.psci_abi.declared.request.Request.TheVariants as requests
use Rattle.psci_headline.specs.psci_board.Board.{height}
use Rattle.psci_headline.specs.psci_fw_spec.declared.mode.SuspendMode.{SuspendMode}
use Rattle.psci_headline.specs.psci_fw_spec.declared.opening.Opening.{Opening}
use Rattle.psci_headline.specs.psci_fw_spec.declared.outcome.Act.TheVariants as acts
use Rattle.psci_headline.specs.psci_world_spec.Legal.{controller_values, firmware_history, place}
use Rattle.psci_headline.specs.psci_world_spec.declared.event.Event.TheVariants.{Call, Enter}
use Rattle.psci_headline.specs.psci_world_spec.declared.place.Place.{Place}
use Rattle.psci_headline.specs.psci_world_spec.declared.place.Place.TheVariants.{Running}
use Rattle.psci_headline.specs.psci_world_spec.declared.said.Record.{Record}
use Rattle.psci_headline.specs.psci_world_spec.declared.said.Said.TheVariants.{Fw}
use Rattle.psci_headline.specs.psci_world_spec.declared.said.Sent.{Sent}
use Rattle.psci_platform.specs.Platforms.{PlatformValue}
use Rattle.psci_platform.specs.States.{depth_at, states_of}
use Rattle.psci_platform.specs.psci_state.PowerState.{power_down}
use Rattle.psci_platform_safe.specs.Asked.{depth_above, domain_above, IsAsAsked, IsAskedOf}
use Rattle.psci_platform_safe.specs.Asked.{IsCore, life_of, mode_of, number, numbered}

-- Opened ------------------------------------------------------------------------------------------
-- What opens an entry point to a core of a platform, by the call's own words, and what took it up.

-- Openings ------------------------------------------------------------------------------------

-- an accepted CPU_ON of a core, which has this entry point and context id
pub record ByCpuOn (r : Record) (mpidr : ℕ) (o : Opening) : Type 0 where
  pub caller : ℕ
  pub regs : Regs
  pub sent : Sent
  pub event : r.event ≡ Call caller regs
  pub asks : request_of regs ≡ requests.CpuOn mpidr o.address o.context
  pub said : r.said ≡ Fw (acts.Return success) (Some sent)

-- a word that powers down its caller, in this mode
pub record IsPowerDown (p : PlatformValue) (mode : SuspendMode) (word : ℕ) : Type 0 where
  pub states : List ℕ
  pub row : states_of p.description mode word ≡ Some states
  pub deep : depth_at p.description 0 (slice_index states 0) ≡ power_down

-- a CPU_SUSPEND that powers its caller down, or a SYSTEM_SUSPEND, with this entry point and context
-- id, in which the caller stopped
pub record BySuspend (p : PlatformValue) (mode : SuspendMode) (r : Record) (mpidr : ℕ) (o : Opening)
    : Type 0 where
  pub regs : Regs
  pub sent : Sent
  pub event : r.event ≡ Call mpidr regs
  pub asks : ((word : ℕ) × (request_of regs ≡ requests.CpuSuspend word o.address o.context)
      × IsPowerDown p mode word)
      ⊎ (request_of regs ≡ requests.SystemSuspend o.address o.context)
  pub said : r.said ≡ Fw acts.Stop (Some sent)

-- a record after these opens this entry point with this context id to a core
abbrev pub Opens : PlatformValue → List Record → Record → ℕ → Opening → Type 0
Opens p before r mpidr o = ByCpuOn r mpidr o ⊎ BySuspend p (mode_of p before) r mpidr o

-- where the boot core enters in each life: at the board's boot address, with context id 0
abbrev pub boot_opening : PlatformValue → Opening
boot_opening p = record { address = p.board.boot; context = 0 }

-- Entries -------------------------------------------------------------------------------------

-- in none of these records a core enters at an opening
abbrev pub NoneEnters : ℕ → List Record → Type 0
NoneEnters mpidr rs = (k : ℕ) (r : Record) (o : Opening) (sent : Option Sent)
    → slice_get rs k ≡ Some r
    → r.event ≡ Enter mpidr → r.said ≡ Fw (acts.Enter o.address o.context) sent → ⊥

-- An opening that waits for a core: it was made in this life, by a call or for the boot core by the
-- life's start, and the core has not entered at an opening since. So no other entry can take it up.
pub record Waits (p : PlatformValue) (past : List Record) (mpidr : ℕ) (o : Opening) : Type 0 where
  pub since : List Record
  pub before : List Record
  pub split : past ≡ since ++ before
  pub unused : NoneEnters mpidr since
  pub made : ((r : Record) × (older : List Record) × (before ≡ r ∷ older)
      × Opens p older r mpidr o × (life_of p before ≡ life_of p past))
      ⊎ ((mpidr ≡ p.boot) × (o ≡ boot_opening p) × (life_of p before ≡ life_of p past → ⊥))

-- 4. One entry for each opening: a core that enters at an opening takes up one that waited for it,
-- or begins a life, as the boot core does where the life begins.
abbrev pub OneEntryEach : PlatformValue → List Record → Type 0
OneEntryEach p [] = Unit {0}
OneEntryEach p (r ∷ past) = (mpidr : ℕ) (o : Opening) (sent : Option Sent) → r.event ≡ Enter mpidr
    → r.said ≡ Fw (acts.Enter o.address o.context) sent
    → Waits p past mpidr o
    ⊎ ((mpidr ≡ p.boot) × (o ≡ boot_opening p) × (life_of p past ≡ life_of p (r ∷ past) → ⊥))

-- Safe --------------------------------------------------------------------------------------------

-- what the core with an MPIDR does
abbrev pub place_of : PlatformValue → List Record → ℕ → Place
place_of p past mpidr = place p.board (numbered p past) (number p mpidr)

-- a record answers a request with this code
pub record Answers (r : Record) (request : Request) (code : ℕ) : Type 0 where
  pub caller : ℕ
  pub regs : Regs
  pub sent : Option Sent
  pub event : r.event ≡ Call caller regs
  pub asks : request_of regs ≡ request
  pub said : r.said ≡ Fw (acts.Return (record { 0 = pos code })) sent

-- 1. No core below a sleeping domain: while a core executes, each domain above it is fully on.
abbrev pub NoneBelowSleeping : PlatformValue → List Record → Type 0
NoneBelowSleeping p past = (mpidr level : ℕ) → IsCore p mpidr → level ≤ height p.board
    → executes (place_of p past mpidr) ≡ true → depth_above p past mpidr level ≡ 0

-- A core does not run, and since it last went on in the firmware's life it was powered down.
pub record IsOff (p : PlatformValue) (past : List Record) (mpidr : ℕ) : Type 0 where
  pub stopped : place_of p past mpidr ≡ Running → ⊥
  pub down : was_powered_down p.board (life_of p past) (numbered p past) (number p mpidr) ≡ true

-- 1. A core that AFFINITY_INFO says is OFF (1), by itself or by a domain above it, is off.
abbrev pub OffIsDown : PlatformValue → List Record → Type 0
OffIsDown p [] = Unit {0}
OffIsDown p (r ∷ past) = (word level mpidr : ℕ) → Answers r (requests.AffinityInfo level word) 1
    → IsAskedOf p word level mpidr → IsOff p past mpidr

-- 2. One live claim: each domain above a core has at most one.
abbrev pub OneLiveClaim : PlatformValue → List Record → Type 0
OneLiveClaim p past = (mpidr level : ℕ) → IsCore p mpidr → level ≤ height p.board
    → length (live_claims p.board (numbered p past) (domain_above p mpidr level)) ≤ 1

-- 3. No deeper than asked: while there is a life, a domain that is not fully on is as deep as the
-- cores below it had asked for.
abbrev pub NoDeeperThanAsked : PlatformValue → List Record → Type 0
NoDeeperThanAsked p past = (mpidr level life : ℕ) → IsCore p mpidr → level ≤ height p.board
    → (controller_values p.board (numbered p past)).life ≡ Some life
    → 0 < depth_above p past mpidr level
    → IsAsAsked p past mpidr level life (depth_above p past mpidr level)

-- 5. Reported states were real: a core or domain that NODE_HW_STATE says is off (HW_OFF, 1) was
-- powered down at some moment of this life, by the starts that the firmware knew of; one that it
-- says is in standby (HW_STANDBY, 2) was in standby or retention.
abbrev pub StatesWereReal : PlatformValue → List Record → Type 0
StatesWereReal p [] = Unit {0}
StatesWereReal p (r ∷ past) = (word level mpidr : ℕ) → IsAskedOf p word level mpidr
    → (Answers r (requests.NodeHwState level word) 1
    → WasSoDeep p.board is_off_depth (numbered p past) (domain_above p mpidr level))
    × (Answers r (requests.NodeHwState level word) 2
    → WasSoDeep p.board is_standby_depth (numbered p past) (domain_above p mpidr level))

-- The platform is safe at this moment.
pub record SafeOn (p : PlatformValue) (past : List Record) : Type 0 where
  pub powered : NoneBelowSleeping p past
  pub off : OffIsDown p past
  pub one : OneLiveClaim p past
  pub asked : NoDeeperThanAsked p past
  pub entries : OneEntryEach p past
  -- 4. and by the firmware's numbers: each entry takes up one opening of its core and life, with
  -- its address and context id, and no two take up the same one
  pub taken : AreTakenUp p.board (firmware_history p.board (numbered p past))
  pub states : StatesWereReal p past

-- The platform was safe at every moment of these records.
abbrev pub AlwaysSafeOn : PlatformValue → List Record → Type 0
AlwaysSafeOn p [] = SafeOn p []
AlwaysSafeOn p (r ∷ past) = SafeOn p (r ∷ past) × AlwaysSafeOn p past
