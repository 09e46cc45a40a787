pub mod Lines
pub mod RadixDigits
mod ReadingRows
pub mod Runs
