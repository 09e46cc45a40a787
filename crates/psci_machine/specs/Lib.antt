pub mod Seen
pub use Rattle.psci_ctl.specs.Seen as Controller
pub use Rattle.psci_fw.specs.Reactions as Firmware
pub use Rattle.psci_fw.specs.psci_board
pub use Rattle.psci_fw.specs.psci_messages
pub use Rattle.psci_ctl.specs.psci_ctl_spec
pub use Rattle.psci_fw.specs.psci_fw_spec
pub use Rattle.psci_headline.specs.Safe
pub use Rattle.psci_world_spec.specs as psci_world_spec
