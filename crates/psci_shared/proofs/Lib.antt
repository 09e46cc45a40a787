pub mod AgreeRows
mod AnsweredRows
pub mod BookRows
pub mod CallRows
pub mod Crossing
pub mod CtlAnsweredRows
mod OwnCallRows
pub mod Placed
pub mod PolledRows
pub mod Written
pub mod Unnamed
