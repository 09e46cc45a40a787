-- How a function ends: it returns a code, or stops its caller and sends a message, and an accepted
-- CPU_ON returns SUCCESS and sends a Start. What each of these ways has, each outcome has.
use Rattle.psci_fw_spec.proofs.Words.{◌≡◌, arith, BadState, BoardValue, Code, deepest_of, false}
use Rattle.psci_fw_spec.proofs.Words.{function_outcome, height, List, message_for, MessageValue}
use Rattle.psci_fw_spec.proofs.Words.{Ok, Outcome, Part, Request, Result, returns, Some, stops}
use Rattle.psci_fw_spec.proofs.Words.{stops_with, success, suspend_asked, suspend_parts}
use Rattle.psci_fw_spec.proofs.Words.{system_message, system_reset2, system_suspend, true}
use Rattle.psci_fw_spec.proofs.Words.{Values, ℕ}
use Rattle.psci_fw_spec.specs.Answer.{outcome_of}
use Rattle.psci_abi.specs.declared.request.Request.TheVariants as requests
use Rattle.psci_messages.specs.declared.kind.Kind.TheVariants as kinds
use Rattle.psci_fw_spec.specs.declared.outcome.Act.TheVariants as acts

-- SUCCESS is returned, and this is sent
abbrev pub starts_with : MessageValue → Outcome
starts_with m = record { act = acts.Return success; message = Some m }

-- One function --------------------------------------------------------------------------------

-- CPU_SUSPEND returns, or stops its caller with the claim of what its word asks
pub suspend_ends : (P : Outcome → Type 0) (b : BoardValue) (v : Values) (c entry_point : ℕ)
    (asked : Result (List ℕ) BadState) → ((code : Code) → P (returns code))
    → ((ask : List ℕ) (parts : List Part) → asked ≡ Ok ask → suspend_parts b v c ask ≡ Ok parts
    → P (stops_with (message_for v kinds.Down c parts)))
    → P (suspend_asked b v c entry_point asked)
suspend_ends P b v c entry_point asked returned stopped = grind arith

-- SYSTEM_SUSPEND returns, or stops its caller with the claim of power-down of all levels
pub system_ends : (P : Outcome → Type 0) (b : BoardValue) (v : Values) (c entry_point : ℕ)
    → ((code : Code) → P (returns code))
    → ((parts : List Part) → suspend_parts b v c (deepest_of (height b)) ≡ Ok parts
    → P (stops_with (message_for v kinds.Down c parts)))
    → P (system_suspend b v c entry_point)
system_ends P b v c entry_point returned stopped = grind arith

-- SYSTEM_RESET2 returns, or stops its caller with the message of a reset
pub reset2_ends : (P : Outcome → Type 0) (v : Values) (c reset_type : ℕ)
    → ((code : Code) → P (returns code)) → P (system_message v kinds.Reset c)
    → P (system_reset2 v c reset_type)
reset2_ends P v c reset_type returned stopped = grind arith

-- All functions -------------------------------------------------------------------------------

-- a CPU_ON alone returns and sends something
pub function_ends : (P : Outcome → Type 0) (b : BoardValue) (v : Values) (c : ℕ) (r : Request)
    → ((code : Code) → P (returns code)) → ((m : MessageValue) → P (stops_with m))
    → ((word entry_point context : ℕ) (m : MessageValue)
    → r ≡ requests.CpuOn word entry_point context → P (starts_with m))
    → P (function_outcome b v c r)
function_ends P b v c r returned stopped asked = grind arith

-- in a halting life every function stops its caller, and sends nothing
pub outcome_ends : (P : Outcome → Type 0) (b : BoardValue) (v : Values) (c : ℕ) (r : Request)
    → (v.halting ≡ true → P stops) → (v.halting ≡ false → P (function_outcome b v c r))
    → P (outcome_of b v c r)
unfolding outcome_of
outcome_ends P b v c r halted awake = grind arith
