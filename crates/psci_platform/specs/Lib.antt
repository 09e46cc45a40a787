pub mod Arguments
pub mod Calls
pub mod Cores
pub mod Described
pub mod Faults
pub mod Identity
pub mod Names
pub mod Platforms
pub mod States
pub mod Swaps
pub use Rattle.psci_abi.specs as psci_abi
pub use Rattle.psci_board.specs as psci_board
pub use Rattle.psci_fw_laws.specs as psci_fw_laws
pub use Rattle.psci_fw_spec.specs as psci_fw_spec
pub use Rattle.psci_state.specs as psci_state
