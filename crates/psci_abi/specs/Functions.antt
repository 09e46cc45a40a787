-- The functions of the standard: how each is named, which words call it, and how it is called.
use Rattle.std.specs.Prelude.{ℕ, List, [], ◌∷◌, Option, None, Some, Bool, codes}
use Rattle.std.specs.Prelude.{if◌then◌else◌, get_or, unwrap_or}
use Rattle.psci_abi.specs.declared.functions.Function.{Function}
use Rattle.psci_abi.specs.declared.functions.Function.TheVariants.{Version, CpuSuspend, CpuOff}
use Rattle.psci_abi.specs.declared.functions.Function.TheVariants.{CpuOn, AffinityInfo}
use Rattle.psci_abi.specs.declared.functions.Function.TheVariants.{MigrateInfoType, SystemOff}
use Rattle.psci_abi.specs.declared.functions.Function.TheVariants.{SystemReset, Features}
use Rattle.psci_abi.specs.declared.functions.Function.TheVariants.{NodeHwState, SystemSuspend}
use Rattle.psci_abi.specs.declared.functions.Function.TheVariants.{SetSuspendMode, SystemReset2}
use Rattle.psci_abi.specs.declared.parameter.Parameter.{Parameter}
use Rattle.psci_abi.specs.declared.parameter.Parameter.TheVariants.{PowerState, Target, Level}
use Rattle.psci_abi.specs.declared.parameter.Parameter.TheVariants.{Entry, Context, Word, Mode}
use Rattle.psci_abi.specs.declared.parameter.Parameter.TheVariants.{ResetType, Cookie, Nothing}
use Rattle.psci_abi.specs.declared.request.Request.{Request}
use Rattle.psci_abi.specs.declared.request.Request.TheVariants as requests
use Rattle.psci_abi.specs.declared.registers.Regs.{Regs}

-- the function that a request is of, if it is of one
abbrev pub function_in : Request → Option Function
function_in requests.Version = Some Version
function_in (requests.CpuSuspend state entry context) = Some CpuSuspend
function_in requests.CpuOff = Some CpuOff
function_in (requests.CpuOn target entry context) = Some CpuOn
function_in (requests.AffinityInfo level target) = Some AffinityInfo
function_in requests.MigrateInfoType = Some MigrateInfoType
function_in requests.SystemOff = Some SystemOff
function_in requests.SystemReset = Some SystemReset
function_in (requests.Features word) = Some Features
function_in (requests.NodeHwState level target) = Some NodeHwState
function_in (requests.SystemSuspend entry context) = Some SystemSuspend
function_in (requests.SetSuspendMode mode) = Some SetSuspendMode
function_in (requests.SystemReset2 reset_type cookie) = Some SystemReset2
function_in requests.Unknown = None

-- its name in the standard
abbrev pub function_name : Function → List ℕ
function_name Version = codes "PSCI_VERSION"
function_name CpuSuspend = codes "CPU_SUSPEND"
function_name CpuOff = codes "CPU_OFF"
function_name CpuOn = codes "CPU_ON"
function_name AffinityInfo = codes "AFFINITY_INFO"
function_name MigrateInfoType = codes "MIGRATE_INFO_TYPE"
function_name SystemOff = codes "SYSTEM_OFF"
function_name SystemReset = codes "SYSTEM_RESET"
function_name Features = codes "PSCI_FEATURES"
function_name NodeHwState = codes "NODE_HW_STATE"
function_name SystemSuspend = codes "SYSTEM_SUSPEND"
function_name SetSuspendMode = codes "PSCI_SET_SUSPEND_MODE"
function_name SystemReset2 = codes "SYSTEM_RESET2"

-- the same as one word of a line: without PSCI, in small letters
abbrev pub short_name : Function → List ℕ
short_name Version = codes "version"
short_name CpuSuspend = codes "cpu_suspend"
short_name CpuOff = codes "cpu_off"
short_name CpuOn = codes "cpu_on"
short_name AffinityInfo = codes "affinity_info"
short_name MigrateInfoType = codes "migrate_info_type"
short_name SystemOff = codes "system_off"
short_name SystemReset = codes "system_reset"
short_name Features = codes "features"
short_name NodeHwState = codes "node_hw_state"
short_name SystemSuspend = codes "system_suspend"
short_name SetSuspendMode = codes "set_suspend_mode"
short_name SystemReset2 = codes "system_reset2"

-- its word in the SMC32 convention
abbrev pub narrow_word : Function → ℕ
narrow_word Version = 0x84000000
narrow_word CpuSuspend = 0x84000001
narrow_word CpuOff = 0x84000002
narrow_word CpuOn = 0x84000003
narrow_word AffinityInfo = 0x84000004
narrow_word MigrateInfoType = 0x84000006
narrow_word SystemOff = 0x84000008
narrow_word SystemReset = 0x84000009
narrow_word Features = 0x8400000A
narrow_word NodeHwState = 0x8400000D
narrow_word SystemSuspend = 0x8400000E
narrow_word SetSuspendMode = 0x8400000F
narrow_word SystemReset2 = 0x84000012

-- its word in the SMC64 convention, if it has one
abbrev pub wide_word : Function → Option ℕ
wide_word CpuSuspend = Some 0xC4000001
wide_word CpuOn = Some 0xC4000003
wide_word AffinityInfo = Some 0xC4000004
wide_word NodeHwState = Some 0xC400000D
wide_word SystemSuspend = Some 0xC400000E
wide_word SystemReset2 = Some 0xC4000012
wide_word function = None

-- what its arguments are, as x1 to x3 carry them
abbrev pub takes : Function → List Parameter
takes CpuSuspend = PowerState ∷ Entry ∷ Context ∷ []
takes CpuOn = Target ∷ Entry ∷ Context ∷ []
takes AffinityInfo = Target ∷ Level ∷ Nothing ∷ []
takes Features = Word ∷ Nothing ∷ Nothing ∷ []
takes NodeHwState = Target ∷ Level ∷ Nothing ∷ []
takes SystemSuspend = Entry ∷ Context ∷ Nothing ∷ []
takes SetSuspendMode = Mode ∷ Nothing ∷ Nothing ∷ []
takes SystemReset2 = ResetType ∷ Cookie ∷ Nothing ∷ []
takes function = Nothing ∷ Nothing ∷ Nothing ∷ []

-- the order of the functions, which is that of their numbers
abbrev pub function_index : Function → ℕ
function_index Version = 0
function_index CpuSuspend = 1
function_index CpuOff = 2
function_index CpuOn = 3
function_index AffinityInfo = 4
function_index MigrateInfoType = 5
function_index SystemOff = 6
function_index SystemReset = 7
function_index Features = 8
function_index NodeHwState = 9
function_index SystemSuspend = 10
function_index SetSuspendMode = 11
function_index SystemReset2 = 12

-- a function word that no function has: MIGRATE, which is not supported
abbrev pub no_function : ℕ
no_function = 0x84000005

-- the word by which a function is called: where it is wanted, in the SMC64 convention if it has
-- one there
abbrev pub word_for : Bool → Option Function → ℕ
word_for wide None = no_function
word_for wide (Some function) =
    (if wide then unwrap_or (wide_word function) (narrow_word function) else narrow_word function)

-- the arguments of a request, as x1 to x3 carry them; 0 where there is none
abbrev pub arguments_of : Request → List ℕ
arguments_of (requests.CpuSuspend state entry context) = state ∷ entry ∷ context ∷ []
arguments_of (requests.CpuOn target entry context) = target ∷ entry ∷ context ∷ []
arguments_of (requests.AffinityInfo level target) = target ∷ level ∷ 0 ∷ []
arguments_of (requests.Features word) = word ∷ 0 ∷ 0 ∷ []
arguments_of (requests.NodeHwState level target) = target ∷ level ∷ 0 ∷ []
arguments_of (requests.SystemSuspend entry context) = entry ∷ context ∷ 0 ∷ []
arguments_of (requests.SetSuspendMode mode) = mode ∷ 0 ∷ 0 ∷ []
arguments_of (requests.SystemReset2 reset_type cookie) = reset_type ∷ cookie ∷ 0 ∷ []
arguments_of request = 0 ∷ 0 ∷ 0 ∷ []

-- the registers by which a request is called
abbrev pub registers_of : Bool → Request → Regs
registers_of wide request = record {
  x0 = word_for wide (function_in request);
  x1 = get_or (arguments_of request) 0 0;
  x2 = get_or (arguments_of request) 1 0;
  x3 = get_or (arguments_of request) 2 0;
}
