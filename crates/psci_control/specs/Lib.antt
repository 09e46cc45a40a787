pub mod Orders
pub mod ControlSide
pub mod SideOf
pub mod Powered
