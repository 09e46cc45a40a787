pub mod Answered
mod PlaceRows
pub mod Scripts
pub use Rattle.psci_ctl_spec.proofs.Tables
