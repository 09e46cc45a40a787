pub mod Words
pub mod Rows
pub mod Records
pub mod Power
pub mod Running
pub mod Rebooting
pub mod Truth
pub mod Lowering
pub mod Undoing
pub mod Undone
-- Worked examples.
pub mod Playing
mod CellRows
mod PortRows
pub mod Tested
mod RestRows
mod RuleRows
mod ServedRows
