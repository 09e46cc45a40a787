pub mod EventText
pub mod Device
pub mod Exit
pub mod Progress
pub mod Script
pub mod Told
pub mod Text
pub use Rattle.psci_board.specs as psci_board
pub use Rattle.psci_world_spec.specs as psci_world_spec
