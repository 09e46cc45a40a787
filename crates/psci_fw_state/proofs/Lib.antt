mod Confirming
mod AllCores
mod Begun
pub mod Moved
mod KeptCounts
mod CountRows
mod Granting
pub mod New
pub mod Sound
pub mod SavedParts
pub mod SavedWords
pub mod KeptRows
pub mod Words
