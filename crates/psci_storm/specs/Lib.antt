pub mod Storm
pub use Rattle.psci_world.specs.psci_world_spec.declared.said.Record
pub use Rattle.psci_world.specs.declared.settling.Settled
