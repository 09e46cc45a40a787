pub mod Named
pub mod OwnStates
pub mod ByWord
mod FaultRows
mod IdentityRows
pub mod Machines
pub mod Swaps
mod OrderRows
pub mod OwnCores
pub mod Swapped
pub mod Words
