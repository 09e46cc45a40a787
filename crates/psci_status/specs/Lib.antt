pub mod Lists
pub mod Rule
pub mod Seats
pub use Rattle.psci_board.specs as psci_board
pub use Rattle.psci_fw.specs as psci_fw
pub use Rattle.psci_fw_spec.specs as psci_fw_spec
