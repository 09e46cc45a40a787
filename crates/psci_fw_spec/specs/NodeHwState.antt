-- NODE_HW_STATE: the state of the hardware of a core or power domain.
use Rattle.std.specs.Prelude.{ℕ, pos, ◌==◌, if◌then◌else◌, Option, None, Some}
use Rattle.psci_abi.specs.Calls.{invalid_parameters}
use Rattle.psci_abi.specs.declared.registers.Code.{Code}
use Rattle.psci_board.specs.Board.{BoardValue, node_of}
use Rattle.psci_board.specs.declared.draft.Node.{Node}
use Rattle.psci_state.specs.PowerState.{power_down, running}
use Rattle.psci_fw_spec.specs.declared.hw.Hw.{Hw}
use Rattle.psci_fw_spec.specs.declared.hw.Hw.TheVariants.{On, Off, Standby}
use Rattle.psci_fw_spec.specs.Values.{Values}

-- what NODE_HW_STATE answers for a state (DEN0022D, NODE_HW_STATE: HW_ON, HW_OFF, HW_STANDBY)
abbrev pub hw_code : Hw → ℕ
hw_code On = 0
hw_code Off = 1
hw_code Standby = 2

-- the state of a domain at this depth: off in power-down, standby in standby or retention
abbrev pub hw_at : ℕ → Hw
hw_at depth = if depth == power_down then Off else (if depth == running then On else Standby)

-- the hardware state of a domain: that of its granted depth where the last claim on it is
-- confirmed, else on
abbrev pub node_hw : Values → Node → Hw
node_hw v n =
    if v.confirmed n.level n.place then hw_at (v.granted n.level n.place) else On

-- what NODE_HW_STATE answers, by the node that its affinity word names
abbrev pub hw_state_of : Values → Option Node → Code
hw_state_of v None = invalid_parameters
hw_state_of v (Some n) = record { 0 = pos (hw_code (node_hw v n)) }

-- NODE_HW_STATE: the hardware state of the core or power domain that the word names at the level
abbrev pub node_hw_state : BoardValue → Values → ℕ → ℕ → Code
node_hw_state b v target level = hw_state_of v (node_of b target level)
