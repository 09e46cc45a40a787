pub mod PowerCalls
pub mod Effects
pub mod Answer
pub mod Changes
pub mod History
pub mod Invariant
pub mod Legal
pub mod Values
pub mod NodeHwState
pub mod Phases
pub mod Statuses
pub use Rattle.psci_abi.specs as psci_abi
pub use Rattle.psci_board.specs as psci_board
pub use Rattle.psci_messages.specs as psci_messages
