pub mod Turns
pub mod Pair
pub mod Arrivals
pub mod Steps
pub mod Guest
pub mod Saved
pub use Rattle.psci_world_spec.specs as psci_world_spec
