pub mod Machine
pub mod Steps
pub mod Seen
pub mod Kept
pub mod Resting
pub mod Frames
