pub mod Frame
pub mod Heading
pub use Rattle.psci_messages.specs as psci_messages
