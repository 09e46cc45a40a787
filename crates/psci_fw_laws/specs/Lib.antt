pub mod Renumbered
pub mod Beside
pub mod Messages
pub use Rattle.psci_fw_spec.specs.psci_abi
pub use Rattle.psci_board.specs as psci_board
pub use Rattle.psci_messages.specs as psci_messages
pub use Rattle.psci_fw_spec.specs as psci_fw_spec
