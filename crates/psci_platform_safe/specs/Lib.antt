pub mod Asked
pub mod Safe
