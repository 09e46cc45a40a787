-- The function words, the arguments and the results of a call.
use Rattle.std.specs.Int.{cast_unsigned, w32, w64}
use Rattle.std.specs.Prelude.{◌%◌, ◌+◌, ◌/◌, ◌==◌, ◌^◌, ◌||◌, Bool, false, if◌then◌else◌, negsuc}
use Rattle.std.specs.Prelude.{pos, true, ℕ, ℤ}
use Rattle.psci_abi.specs.declared.registers.Code.{Code}
use Rattle.psci_abi.specs.declared.registers.Format.{Format}
use Rattle.psci_abi.specs.declared.registers.Format.TheVariants.{Extended, Original}
use Rattle.psci_abi.specs.declared.registers.Regs.{Regs}
use Rattle.psci_abi.specs.declared.request.Request.{Request}
use Rattle.psci_abi.specs.declared.request.Request.TheVariants.{AffinityInfo, CpuOff, CpuOn}
use Rattle.psci_abi.specs.declared.request.Request.TheVariants.{CpuSuspend, Features}
use Rattle.psci_abi.specs.declared.request.Request.TheVariants.{MigrateInfoType, NodeHwState}
use Rattle.psci_abi.specs.declared.request.Request.TheVariants.{SetSuspendMode, SystemOff}
use Rattle.psci_abi.specs.declared.request.Request.TheVariants.{SystemReset, SystemReset2}
use Rattle.psci_abi.specs.declared.request.Request.TheVariants.{SystemSuspend, Unknown, Version}

-- Return codes (DEN0022D, the table of error codes) -----------------------------------------------

-- SUCCESS: the function was carried out
abbrev pub success : Code
success = record { 0 = pos 0 }

-- NOT_SUPPORTED: the firmware does not have the function
abbrev pub not_supported : Code
not_supported = record { 0 = negsuc 0 }

-- INVALID_PARAMETERS: an argument names nothing, or is no value that the function takes
abbrev pub invalid_parameters : Code
invalid_parameters = record { 0 = negsuc 1 }

-- DENIED: the state of other cores does not allow it
abbrev pub denied : Code
denied = record { 0 = negsuc 2 }

-- ALREADY_ON: the core is on
abbrev pub already_on : Code
already_on = record { 0 = negsuc 3 }

-- ON_PENDING: the core has been asked on and has not entered yet
abbrev pub on_pending : Code
on_pending = record { 0 = negsuc 4 }

-- INTERNAL_FAILURE: the machine cannot do it
abbrev pub internal_failure : Code
internal_failure = record { 0 = negsuc 5 }

-- NOT_PRESENT: there is no trusted OS on the core
abbrev pub not_present : Code
not_present = record { 0 = negsuc 6 }

-- DISABLED: the core is disabled in hardware
abbrev pub disabled : Code
disabled = record { 0 = negsuc 7 }

-- INVALID_ADDRESS: the entry point may not be entered
abbrev pub invalid_address : Code
invalid_address = record { 0 = negsuc 8 }

-- Calls -------------------------------------------------------------------------------------------

-- the low half of a register, or of an argument: the function word, and what has 32 bits
abbrev pub low_half : ℕ → ℕ
low_half x = x % 2 ^ 32

-- the SMC64 convention: bit 30 of the function word
abbrev pub is_wide : Regs → Bool
is_wide r = r.x0 / 2 ^ 30 % 2 == 1

-- an argument as the convention passes it: all of its register (SMC64), or the low half (SMC32)
abbrev pub argument : Regs → ℕ → ℕ
argument r register = if is_wide r then register else low_half register

-- The table of functions (DEN0022D), by the function word and the arguments. A function without a
-- word in the SMC64 convention is unknown there; a power state, a level, a feature word, a mode and
-- a reset type have 32 bits in both.
abbrev pub function_of : ℕ → ℕ → ℕ → ℕ → Request
function_of word x1 x2 x3 =
    (if word == 0x84000000 then Version
    else (if word == 0x84000001 || word == 0xC4000001 then CpuSuspend (low_half x1) x2 x3
    else (if word == 0x84000002 then CpuOff
    else (if word == 0x84000003 || word == 0xC4000003 then CpuOn x1 x2 x3
    else (if word == 0x84000004 || word == 0xC4000004 then AffinityInfo (low_half x2) x1
    else (if word == 0x84000006 then MigrateInfoType
    else (if word == 0x84000008 then SystemOff
    else (if word == 0x84000009 then SystemReset
    else (if word == 0x8400000A then Features (low_half x1)
    else (if word == 0x8400000D || word == 0xC400000D then NodeHwState (low_half x2) x1
    else (if word == 0x8400000E || word == 0xC400000E then SystemSuspend x1 x2
    else (if word == 0x8400000F then SetSuspendMode (low_half x1)
    else (if word == 0x84000012 || word == 0xC4000012 then SystemReset2 (low_half x1) x2
    else Unknown)))))))))))))

-- the function that registers call, and its arguments
abbrev pub request_of : Regs → Request
request_of r = function_of (low_half r.x0) (argument r r.x1) (argument r r.x2) (argument r r.x3)

-- whether the table has the function
abbrev pub is_known : Request → Bool
is_known Version = true
is_known (CpuSuspend state entry context) = true
is_known CpuOff = true
is_known (CpuOn target entry context) = true
is_known (AffinityInfo level target) = true
is_known MigrateInfoType = true
is_known SystemOff = true
is_known SystemReset = true
is_known (Features word) = true
is_known (NodeHwState level target) = true
is_known (SystemSuspend entry context) = true
is_known (SetSuspendMode mode) = true
is_known (SystemReset2 reset_type cookie) = true
is_known Unknown = false

-- which function words are supported: those of the table
abbrev pub is_supported : ℕ → Bool
is_supported word = is_known (function_of word 0 0 0)

-- the flag of CPU_SUSPEND for OS-initiated mode, bit 0 (DEN0022D, PSCI_FEATURES)
abbrev pub os_initiated_flag : ℕ
os_initiated_flag = 2 ^ 0

-- the flag of CPU_SUSPEND for power state words in the extended format, bit 1
abbrev pub extended_flag : ℕ
extended_flag = 2 ^ 1

-- the flags of CPU_SUSPEND: OS-initiated mode is there, and power state words have this format
abbrev pub suspend_flags : Format → ℕ
suspend_flags Original = os_initiated_flag
suspend_flags Extended = os_initiated_flag + extended_flag

-- the feature flags of a function: CPU_SUSPEND has some, and no other function
abbrev pub feature_flags : Format → Request → ℕ
feature_flags format (CpuSuspend state entry context) = suspend_flags format
feature_flags format _ = 0

-- what PSCI_FEATURES answers: the flags of a function that is there, else NOT_SUPPORTED
abbrev pub features_of : Format → ℕ → ℤ
features_of format word =
    if is_supported word then pos (feature_flags format (function_of word 0 0 0))
    else not_supported.0

-- a result register: the code over 64 bits, or over the low 32 with the upper half zero
abbrev pub register_of : ℤ → Bool → ℕ
register_of code wide = if wide then cast_unsigned w64 code else cast_unsigned w32 code

-- the register x0 after a call that was answered with this code
abbrev pub result_of : Regs → Code → ℕ
result_of r code = register_of code.0 (is_wide r)
