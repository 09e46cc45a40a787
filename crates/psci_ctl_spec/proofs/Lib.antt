pub mod Sums
pub mod Depths
mod LegalRows
pub mod Steps
mod ValueRows
pub use Rattle.psci_board.proofs.Tables
