mod Events
mod Following
mod Kicks
mod NextRows
mod PresentRows
mod SeenRows
pub use Rattle.psci_world_spec.proofs as world_spec
pub use Rattle.psci_world_spec.proofs.Tables
