-- What the first argument of a call is to a platform, by the function word alone.
use Rattle.std.specs.Prelude.{ℕ, Bool, ◌==◌, ◌||◌, if◌then◌else◌}
use Rattle.psci_abi.specs.Calls.{argument, low_half}
use Rattle.psci_abi.specs.declared.registers.Regs.{Regs}
use Rattle.psci_board.specs.Board.{BoardValue}
use Rattle.psci_fw_spec.specs.declared.mode.SuspendMode.{SuspendMode}
use Rattle.psci_platform.specs.declared.argument.Argument.{Argument}
use Rattle.psci_platform.specs.declared.argument.Argument.TheVariants.{Missing, State, Core, Node}
use Rattle.psci_platform.specs.declared.argument.Argument.TheVariants.{Function, Reset, System}
use Rattle.psci_platform.specs.declared.argument.Argument.TheVariants.{Other}
use Rattle.psci_platform.specs.declared.asked.Asked.{Asked}
use Rattle.psci_platform.specs.declared.asked.Asked.TheVariants as asks
use Rattle.psci_platform.specs.declared.functions.Functions.{Functions}
use Rattle.psci_platform.specs.Calls.{asks_states, feature_word, is_vendors, no_function}
use Rattle.psci_platform.specs.Calls.{reset_word}
use Rattle.psci_platform.specs.Cores.{core_word}
use Rattle.psci_platform.specs.Described.{DescriptionValue}
use Rattle.psci_platform.specs.States.{states_of, word_for}

-- the argument of a function that may not be there
abbrev pub there : Bool → Argument → Argument
there is_there a = if is_there then a else Missing

-- What the first argument of the function of a word names. Of a function that is there on each
-- platform, and that says the same everywhere, it names nothing.
abbrev pub argument_by : Functions → ℕ → Argument
argument_by f word =
    (if word == 0x84000001 || word == 0xC4000001 then there f.cpu_suspend State
    else (if word == 0x84000002 then there f.cpu_off Other
    else (if word == 0x84000003 || word == 0xC4000003 then there f.cpu_on Core
    else (if word == 0x84000004 || word == 0xC4000004 then Node
    else (if word == 0x84000008 then there f.system_off Other
    else (if word == 0x84000009 then there f.system_reset Other
    else (if word == 0x8400000A then Function
    else (if word == 0x8400000D || word == 0xC400000D then there f.node_hw_state Node
    else (if word == 0x8400000E || word == 0xC400000E then there f.system_suspend System
    else (if word == 0x8400000F then there f.cpu_suspend Other
    else (if word == 0x84000012 || word == 0xC4000012 then there f.system_reset2 Reset
    else Other)))))))))))

-- the first argument that the firmware is asked with, where it is one of these
abbrev pub first_by : DescriptionValue → BoardValue → ℕ → SuspendMode → Regs → Argument → ℕ
first_by d b boot mode r State =
    word_for d b.format (states_of d mode (low_half (argument r r.x1)))
first_by d b boot mode r Core = core_word d b boot (argument r r.x1) 0
first_by d b boot mode r Node = core_word d b boot (argument r r.x1) (low_half (argument r r.x2))
first_by d b boot mode r Function = feature_word d (low_half (argument r r.x1))
first_by d b boot mode r Reset = reset_word d (low_half (argument r r.x1))
first_by d b boot mode r a = r.x1

-- the registers that the firmware is called with
abbrev pub regs_by : DescriptionValue → BoardValue → ℕ → SuspendMode → Regs → Argument → Regs
regs_by d b boot mode r Missing = record r { x0 = no_function }
regs_by d b boot mode r a = record r { x1 = first_by d b boot mode r a }

-- what is asked beside
abbrev pub told_by : DescriptionValue → SuspendMode → Regs → Argument → Asked
told_by d mode r State = asks_states (states_of d mode (low_half (argument r r.x1)))
told_by d mode r System = asks.States d.system
told_by d mode r Reset =
    let reset_type = low_half (argument r r.x1) in
    if is_vendors d reset_type then asks.Reset reset_type else asks.Nothing
told_by d mode r a = asks.Nothing
