pub use Rattle.psci_script.specs as psci_script
