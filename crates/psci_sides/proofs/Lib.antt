pub mod Words
pub mod Carrying
pub mod Commanding
pub mod Locking
pub mod Calling
pub mod Delivering
pub mod Restarting
pub mod Sound
pub mod Settling
pub mod Acking
pub mod Visiting
pub mod Ended
pub mod Delivered
pub mod Finite
-- Worked examples.
pub mod Pair
pub mod Tested
mod MachineRows
mod StepRows
mod MadeRows
mod RestRows
mod FrameRows
mod Framed
mod ServingRows
