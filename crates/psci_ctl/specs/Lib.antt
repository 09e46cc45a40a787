pub mod Rows
pub mod Saved
pub mod Seen
pub use Rattle.psci_ctl_spec.specs as psci_ctl_spec
