pub mod Always
mod AffinityRows
pub mod Entered
mod Granting
pub mod Changing
mod ConfirmedRows
mod Depending
pub mod Endings
mod InvariantRows
mod LegalRows
mod MessageRows
pub mod Stopping
mod Steps
mod Wishes
pub mod Words
