pub mod Words
pub use Rattle.psci_abi.proofs.Tables
