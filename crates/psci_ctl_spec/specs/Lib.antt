pub mod Replies
pub mod Values
pub mod History
pub use Rattle.psci_messages.specs.psci_abi
pub use Rattle.psci_messages.specs as psci_messages
