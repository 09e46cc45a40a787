pub mod Legal
pub use Rattle.psci_fw_spec.specs.psci_abi
pub use Rattle.psci_fw_spec.specs.psci_board
pub use Rattle.psci_fw_spec.specs.psci_messages
pub use Rattle.psci_ctl_spec.specs as psci_ctl_spec
pub use Rattle.psci_fw_spec.specs as psci_fw_spec
