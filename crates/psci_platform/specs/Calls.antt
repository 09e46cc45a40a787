-- Which functions a platform has, and what the firmware is asked for a call.
use Rattle.std.specs.Prelude.{ℕ, Bool, true, ◌==◌, if◌then◌else◌, List, Option, Some, None}
use Rattle.std.specs.List.{list_any}
use Rattle.psci_abi.specs.Calls.{function_of, request_of}
use Rattle.psci_abi.specs.declared.registers.Regs.{Regs}
use Rattle.psci_abi.specs.declared.request.Request.{Request}
use Rattle.psci_abi.specs.declared.request.Request.TheVariants as requests
use Rattle.psci_board.specs.Board.{BoardValue}
use Rattle.psci_fw_spec.specs.declared.mode.SuspendMode.{SuspendMode}
use Rattle.psci_platform.specs.declared.asked.Asked.{Asked}
use Rattle.psci_platform.specs.declared.asked.Asked.TheVariants as asks
use Rattle.psci_platform.specs.Described.{DescriptionValue}
use Rattle.psci_platform.specs.declared.functions.Functions.{Functions}
use Rattle.psci_platform.specs.Cores.{core_word}
use Rattle.psci_platform.specs.States.{states_of, word_for}

-- the platform has the function
abbrev pub is_there : Functions → Request → Bool
is_there f (requests.CpuSuspend state entry_point context) = f.cpu_suspend
is_there f (requests.SetSuspendMode mode) = f.cpu_suspend
is_there f requests.CpuOff = f.cpu_off
is_there f (requests.CpuOn target entry_point context) = f.cpu_on
is_there f requests.SystemOff = f.system_off
is_there f requests.SystemReset = f.system_reset
is_there f (requests.NodeHwState level target) = f.node_hw_state
is_there f (requests.SystemSuspend entry_point context) = f.system_suspend
is_there f (requests.SystemReset2 reset_type cookie) = f.system_reset2
is_there f request = true

-- a function word that no function has
abbrev pub no_function : ℕ
no_function = 0

-- the function word that the firmware is asked about
abbrev pub feature_word : DescriptionValue → ℕ → ℕ
feature_word d word = if is_there d.functions (function_of word 0 0 0) then word else no_function

-- a reset type is one of the vendor's
abbrev pub is_vendors : DescriptionValue → ℕ → Bool
is_vendors d reset_type = list_any (λ own. own == reset_type) d.resets

-- the reset type that the firmware is asked for: each of the vendor's resets the system
abbrev pub reset_word : DescriptionValue → ℕ → ℕ
reset_word d reset_type = if is_vendors d reset_type then 0 else reset_type

-- the first argument that the firmware is asked with, where the core at this place boots
abbrev pub first_argument : DescriptionValue → BoardValue → ℕ → SuspendMode → ℕ → Request → ℕ
first_argument d b boot mode x1 (requests.CpuSuspend state entry_point context) =
    word_for d b.format (states_of d mode state)
first_argument d b boot mode x1 (requests.CpuOn target entry_point context) =
    core_word d b boot target 0
first_argument d b boot mode x1 (requests.AffinityInfo level target) =
    core_word d b boot target level
first_argument d b boot mode x1 (requests.NodeHwState level target) =
    core_word d b boot target level
first_argument d b boot mode x1 (requests.Features word) = feature_word d word
first_argument d b boot mode x1 (requests.SystemReset2 reset_type cookie) = reset_word d reset_type
first_argument d b boot mode x1 request = x1

-- The registers that the firmware is called with for a request of a platform. A function that is
-- not there has a word that no function has; else only the first argument changes.
abbrev pub regs_asking : DescriptionValue → BoardValue → ℕ → SuspendMode → Regs → Request → Regs
regs_asking d b boot mode regs request =
    if is_there d.functions request
    then record regs { x1 = first_argument d b boot mode regs.x1 request }
    else record regs { x0 = no_function }

-- the registers that the firmware is called with
unfoldable pub regs_for : DescriptionValue → BoardValue → ℕ → SuspendMode → Regs → Regs
regs_for d b boot mode regs = regs_asking d b boot mode regs (request_of regs)

-- states that are asked for, if there are some
abbrev pub asks_states : Option (List ℕ) → Asked
asks_states None = asks.Nothing
asks_states (Some states) = asks.States states

-- what a request of a platform asks beside what the firmware is told
abbrev pub asked_by : DescriptionValue → SuspendMode → Request → Asked
asked_by d mode (requests.CpuSuspend state entry_point context) =
    asks_states (states_of d mode state)
asked_by d mode (requests.SystemSuspend entry_point context) = asks.States d.system
asked_by d mode (requests.SystemReset2 reset_type cookie) =
    if is_vendors d reset_type then asks.Reset reset_type else asks.Nothing
asked_by d mode request = asks.Nothing

-- the same of registers: nothing is asked of a function that is not there
unfoldable pub asked_for : DescriptionValue → SuspendMode → Regs → Asked
asked_for d mode regs =
    let request = request_of regs in
    if is_there d.functions request then asked_by d mode request else asks.Nothing
