-- In the order of the argument.
pub mod Moments
pub mod Told
pub mod AskedFor
pub mod Histories
pub mod Backwards
pub mod Waiting
pub mod Records
pub mod Suspended
-- Worked examples.
mod LegalRows
mod HoldsRows
mod WaitRows
mod AskedRows
mod AskedForRows
mod OffRows
mod BrokenRows
pub mod Words
