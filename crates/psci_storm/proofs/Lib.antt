pub mod Blown
pub mod BlownRows
mod CutRows
pub mod DrawnRows
mod StormRows
