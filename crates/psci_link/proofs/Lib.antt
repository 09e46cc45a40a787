pub mod Headings
pub mod Frames
pub mod Places
