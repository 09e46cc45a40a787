pub mod Board
pub mod Grammar
pub mod Draft
pub mod Level
pub mod Verdict
pub mod Summary
pub mod SummaryVerdict
pub use Rattle.psci_abi.specs as psci_abi
