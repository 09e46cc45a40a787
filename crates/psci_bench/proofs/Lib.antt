mod CallRows
pub mod Crossing
pub mod Kept
mod RunRows
mod SeenRows
pub mod Sendable
pub mod WatchRows
