pub mod Keeping
pub mod Ending
pub mod Others
mod SideRows
