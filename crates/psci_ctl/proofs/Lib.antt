pub mod Walked
pub mod Loaded
pub mod Kept
pub mod SavedFaults
pub mod SavedWords
pub mod KeptRows
