-- What the firmware keeps, as functions of cores, of power domains and of slots.
use Rattle.std.specs.Prelude.{◌==◌, ◌≡◌, Bool, if◌then◌else◌, List, None, Option, slice_get}
use Rattle.std.specs.Prelude.{Some, ℕ}
use Rattle.psci_abi.specs.declared.request.Request.{Request}
use Rattle.psci_abi.specs.declared.request.Request.TheVariants as requests
use Rattle.psci_board.specs.Board.{BoardValue, core_of, is_path_place}
use Rattle.psci_board.specs.declared.draft.Core.{Core}
use Rattle.psci_messages.specs.Message.{AckValue, MessageValue}
use Rattle.psci_messages.specs.Slots.{Slot, slot_of, taken}
use Rattle.psci_messages.specs.declared.kind.Kind.{Kind}
use Rattle.psci_messages.specs.declared.kind.Kind.TheVariants as kinds
use Rattle.psci_messages.specs.declared.part.Part.{Part}
use Rattle.psci_messages.specs.declared.taken.Taken.{Taken}
use Rattle.psci_fw_spec.specs.Phases.{Phase}
use Rattle.psci_fw_spec.specs.declared.mode.SuspendMode.{SuspendMode}
use Rattle.psci_fw_spec.specs.declared.opening.Opening.{Opening}
use Rattle.psci_fw_spec.specs.declared.status.Status.{Status}

-- The values of the firmware. A core goes by its number, a power domain by its level and place.
-- Beyond the last core each function says what it says of a core that is off and was never started.
pub record Values : Type 0 where
  -- the firmware's life: that of the last start that entered, 0 before any
  pub life : ℕ
  -- the system goes off or is reset: SYSTEM_OFF, SYSTEM_RESET or SYSTEM_RESET2 was accepted in
  -- this life
  pub halting : Bool
  -- who coordinates the power domains
  pub mode : SuspendMode
  -- the known start: the number of the last start by which the core entered in this life, or 0
  pub known : ℕ → ℕ
  -- what AFFINITY_INFO says of the core
  pub status : ℕ → Status
  -- what the core is to the firmware
  pub phase : ℕ → Phase
  -- where the core goes on when it next enters
  pub opening : ℕ → Option Opening
  -- the granted depth of a domain: that of the last claim on it, 0 since a core below was asked on
  -- or entered
  pub granted : ℕ → ℕ → ℕ
  -- whether the last claim on a domain is confirmed: it is that of the life's start, or the power
  -- controller has acknowledged that it carried it out
  pub confirmed : ℕ → ℕ → Bool
  -- the message that waits for its acknowledgement
  pub outstanding : Slot → Option MessageValue

-- a function by core, with one core's value updated
abbrev pub updated : {A : Type 0} → (ℕ → A) → ℕ → A → ℕ → A
updated f c x k = if k == c then x else f k

-- What the message of a function names, by the function and its caller ----------------------------

-- the kind of message that a function may send; most send none
abbrev pub kind_of : Request → Option Kind
kind_of (requests.CpuOn target entry_point context) = Some kinds.Start
kind_of (requests.CpuSuspend state entry_point context) = Some kinds.Down
kind_of requests.CpuOff = Some kinds.Down
kind_of (requests.SystemSuspend entry_point context) = Some kinds.Down
kind_of requests.SystemOff = Some kinds.Off
kind_of requests.SystemReset = Some kinds.Reset
kind_of (requests.SystemReset2 reset_type cookie) = Some kinds.Reset
kind_of request = None

-- the core that the message names: the target of a CPU_ON, else the caller
abbrev pub core_named : BoardValue → ℕ → Request → Option Core
core_named b caller (requests.CpuOn target entry_point context) = core_of b target
core_named b caller request = Some (record { number = caller })

-- the message is of the function's kind, names its core, and has the firmware's life and the known
-- start of the core
pub record IsNamed (b : BoardValue) (v : Values) (caller : ℕ) (request : Request)
    (m : MessageValue) : Type 0 where
  pub kind : kind_of request ≡ Some m.kind
  pub core : core_named b caller request ≡ Some m.core
  pub life : m.life ≡ v.life
  pub number : m.number ≡ v.known m.core.number

-- What happens to the domains on a core's path ----------------------------------------------------

-- 0 on the path of a core
abbrev pub cleared : BoardValue → ℕ → (ℕ → ℕ → ℕ) → ℕ → ℕ → ℕ
cleared b c depth level place = if is_path_place b c level place then 0 else depth level place

-- the depth of a claim's part, or what was granted before
abbrev pub claimed_or : Option Part → ℕ → ℕ
claimed_or None before = before
claimed_or (Some p) before = p.depth

-- the granted depths with these parts granted, each on the path of a core at the level of its place
-- in the list
abbrev pub granted_with : BoardValue → ℕ → List Part → (ℕ → ℕ → ℕ) → ℕ → ℕ → ℕ
granted_with b c parts depth level place =
    if is_path_place b c level place
    then claimed_or (slice_get parts level) (depth level place)
    else depth level place

-- What becomes of an acknowledgement --------------------------------------------------------------

-- an acknowledgement is used where its message is outstanding
abbrev pub taken_by : Values → AckValue → Taken
taken_by v a = taken a (v.outstanding (slot_of a.kind a.core))
