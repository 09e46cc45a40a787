pub mod PowerState
pub mod Cores
pub use Rattle.psci_abi.specs as psci_abi
