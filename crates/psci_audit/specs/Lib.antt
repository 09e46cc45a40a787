pub mod Entries
pub mod Told
pub mod Merged
pub use Rattle.psci_world.specs.psci_board
