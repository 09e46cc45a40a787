pub mod AnswerRows
pub mod BoardRows
pub mod Boards
pub mod Paths
pub mod Decided
pub mod More
pub mod Fronts
pub mod KeptTree
mod LimitRows
pub mod Named
pub mod Ranges
pub mod SpelledParts
pub mod SpelledText
pub mod SpelledTree
mod SpellingRows
pub mod Terms
pub mod Values
pub use Rattle.psci_abi.proofs.Tables
