pub mod CallSteps
pub mod Counting
pub mod Past
pub mod ListRows
pub mod Steps
mod PolledRows
pub mod RuleRows
mod SeatRows
pub mod Told
