pub mod Numbers
pub mod Asked
pub mod Served
pub mod Happened
pub mod Turning
pub mod Events
pub mod Present
pub mod Stepping
pub mod Sound
pub mod Keeping
-- Worked examples.
mod ArrivalRows
mod GuestRows
mod KeptRows
pub mod SavedRows
