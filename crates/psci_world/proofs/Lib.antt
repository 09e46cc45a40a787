mod OnTheWay
pub mod Resting
mod SettlesRows
pub use Rattle.psci_machine.proofs.world_spec
