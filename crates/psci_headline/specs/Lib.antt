pub mod Laws
pub mod Safe
pub mod Complete
pub mod Settling
pub mod PoweredDown
pub mod Test
pub use Rattle.psci_world_spec.specs.psci_abi
pub use Rattle.psci_board.specs as psci_board
pub use Rattle.psci_fw_laws.specs.psci_messages.psci_state
pub use Rattle.psci_fw_laws.specs.psci_messages
pub use Rattle.psci_ctl_spec.specs as psci_ctl_spec
pub use Rattle.psci_fw_laws.specs.psci_fw_spec
pub use Rattle.psci_world_spec.specs as psci_world_spec
pub use Rattle.psci_fw_laws.specs as psci_fw_laws
