pub mod Finish
pub mod Ahead
pub mod Cutting
mod DeviceRows
pub mod EndRows
pub mod Ends
pub mod EventLines
mod ExitRows
pub mod KeptLines
mod ReadRows
mod ReplayRows
pub mod Steps
mod TellRows
mod WordRows
pub use Rattle.psci_board.proofs.Tables
