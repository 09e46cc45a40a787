pub mod Watches
pub mod Runs
pub use Rattle.psci_audit.specs as psci_audit
pub use Rattle.psci_storm.specs as psci_storm
pub use Rattle.psci_fw.specs as psci_fw
pub use Rattle.psci_shared.specs as psci_shared
