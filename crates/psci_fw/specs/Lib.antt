pub mod Reactions
pub mod Saved
pub mod Ways
pub use Rattle.psci_abi.specs as psci_abi
pub use Rattle.psci_board.specs as psci_board
pub use Rattle.psci_messages.specs as psci_messages
pub use Rattle.psci_fw_spec.specs as psci_fw_spec
