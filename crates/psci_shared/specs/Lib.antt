pub mod Places
pub mod Passes
pub mod Locked
