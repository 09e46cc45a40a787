pub mod Settles
pub use Rattle.psci_machine.specs.Safe
pub use Rattle.psci_machine.specs.psci_board
pub use Rattle.psci_machine.specs.psci_world_spec
pub use Rattle.psci_headline.specs.Settling
