pub mod Claim
pub mod Outstanding
pub mod Looked
pub mod Message
pub mod Places
pub mod Saved
pub mod Slots
pub mod Sum
pub mod View
pub use Rattle.psci_board.specs.psci_abi
pub use Rattle.psci_state.specs as psci_state
