pub mod Following
mod BrokenRows
pub mod Changing
pub mod Claiming
pub mod StoppingBy
pub mod Made
pub mod Functions
pub mod Folds
pub mod Started
pub mod Histories
pub mod Numberings
pub mod Refusing
mod RenumberedRows
pub mod Sending
pub mod Words
pub use Rattle.psci_fw_spec.proofs as fw_spec
